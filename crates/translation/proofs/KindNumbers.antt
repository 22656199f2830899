-- The thirty kinds and their numbers.
use mathlib.Core.Path.{◌≡◌, refl}
use mathlib.Core.Bool.{true, false}
use lib.Dec.{eqb}
use Rattle.translation.specs.declared.kind.Kind.{Kind}
use Rattle.translation.specs.declared.kind.Kind.TheVariants.{Mov, Mov32i, Sel, Csetp, Isetp, Iset, Psetp, Pset, Iadd, Iadd32i, Iadd3, Iscadd, Xmad, Imnmx, Icmp, Lop, Lop32i, Lop3, Shl, Shr, Bfe, Bfi, Vmnmx, I2i, Flo, Popc, R2p, P2r, Shf, Lea}
use Rattle.translation.specs.Kinds.{number_of_kind}
use Rattle.translation.specs.Strip.{known}

pub known-number : (k : Kind) → known (number_of_kind k) ≡ true
unfolding known
known-number Mov = refl
known-number Mov32i = refl
known-number Sel = refl
known-number Csetp = refl
known-number Isetp = refl
known-number Iset = refl
known-number Psetp = refl
known-number Pset = refl
known-number Iadd = refl
known-number Iadd32i = refl
known-number Iadd3 = refl
known-number Iscadd = refl
known-number Xmad = refl
known-number Imnmx = refl
known-number Icmp = refl
known-number Lop = refl
known-number Lop32i = refl
known-number Lop3 = refl
known-number Shl = refl
known-number Shr = refl
known-number Bfe = refl
known-number Bfi = refl
known-number Vmnmx = refl
known-number I2i = refl
known-number Flo = refl
known-number Popc = refl
known-number R2p = refl
known-number P2r = refl
known-number Shf = refl
known-number Lea = refl

pub not-mov : (k : Kind) → (k ≡ Mov → ⊥) → eqb (number_of_kind k) 1 ≡ false
not-mov Mov h = absurd (h refl)
not-mov Mov32i h = refl
not-mov Sel h = refl
not-mov Csetp h = refl
not-mov Isetp h = refl
not-mov Iset h = refl
not-mov Psetp h = refl
not-mov Pset h = refl
not-mov Iadd h = refl
not-mov Iadd32i h = refl
not-mov Iadd3 h = refl
not-mov Iscadd h = refl
not-mov Xmad h = refl
not-mov Imnmx h = refl
not-mov Icmp h = refl
not-mov Lop h = refl
not-mov Lop32i h = refl
not-mov Lop3 h = refl
not-mov Shl h = refl
not-mov Shr h = refl
not-mov Bfe h = refl
not-mov Bfi h = refl
not-mov Vmnmx h = refl
not-mov I2i h = refl
not-mov Flo h = refl
not-mov Popc h = refl
not-mov R2p h = refl
not-mov P2r h = refl
not-mov Shf h = refl
not-mov Lea h = refl

pub not-i2i : (k : Kind) → (k ≡ I2i → ⊥) → eqb (number_of_kind k) 24 ≡ false
not-i2i Mov h = refl
not-i2i Mov32i h = refl
not-i2i Sel h = refl
not-i2i Csetp h = refl
not-i2i Isetp h = refl
not-i2i Iset h = refl
not-i2i Psetp h = refl
not-i2i Pset h = refl
not-i2i Iadd h = refl
not-i2i Iadd32i h = refl
not-i2i Iadd3 h = refl
not-i2i Iscadd h = refl
not-i2i Xmad h = refl
not-i2i Imnmx h = refl
not-i2i Icmp h = refl
not-i2i Lop h = refl
not-i2i Lop32i h = refl
not-i2i Lop3 h = refl
not-i2i Shl h = refl
not-i2i Shr h = refl
not-i2i Bfe h = refl
not-i2i Bfi h = refl
not-i2i Vmnmx h = refl
not-i2i I2i h = absurd (h refl)
not-i2i Flo h = refl
not-i2i Popc h = refl
not-i2i R2p h = refl
not-i2i P2r h = refl
not-i2i Shf h = refl
not-i2i Lea h = refl
