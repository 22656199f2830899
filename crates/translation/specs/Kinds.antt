-- The kinds of records and their numbers in 01.
use Rattle.std.specs.Prelude.{◌≡◌, false, ℕ, Result, MatchResult}
use Rattle.translation.specs.declared.kind.Kind.{Kind}
use Rattle.translation.specs.declared.kind.Kind.TheVariants.{Mov, Mov32i, Sel, Csetp, Isetp, Iset, Psetp, Pset, Iadd, Iadd32i, Iadd3, Iscadd, Xmad, Imnmx, Icmp, Lop, Lop32i, Lop3, Shl, Shr, Bfe, Bfi, Vmnmx, I2i, Flo, Popc, R2p, P2r, Shf, Lea}
use Rattle.translation.specs.declared.answer.Refusal.{Refusal}
use Rattle.translation.specs.declared.answer.Refusal.TheVariants.{UnknownKind}
use Rattle.translation.specs.Strip.{known}

abbrev pub number_of_kind : Kind → ℕ
number_of_kind Mov = 1
number_of_kind Mov32i = 2
number_of_kind Sel = 3
number_of_kind Csetp = 4
number_of_kind Isetp = 5
number_of_kind Iset = 6
number_of_kind Psetp = 7
number_of_kind Pset = 8
number_of_kind Iadd = 9
number_of_kind Iadd32i = 10
number_of_kind Iadd3 = 11
number_of_kind Iscadd = 12
number_of_kind Xmad = 13
number_of_kind Imnmx = 14
number_of_kind Icmp = 15
number_of_kind Lop = 16
number_of_kind Lop32i = 17
number_of_kind Lop3 = 18
number_of_kind Shl = 19
number_of_kind Shr = 20
number_of_kind Bfe = 21
number_of_kind Bfi = 22
number_of_kind Vmnmx = 23
number_of_kind I2i = 24
number_of_kind Flo = 25
number_of_kind Popc = 26
number_of_kind R2p = 27
number_of_kind P2r = 28
number_of_kind Shf = 29
number_of_kind Lea = 30

-- the kind that has the number, or 2 where none has
abbrev pub Numbered : ℕ → Result Kind Refusal → Type 0
Numbered n r = MatchResult r (λ k. number_of_kind k ≡ n) (λ e. (e ≡ UnknownKind) × (known n ≡ false))
