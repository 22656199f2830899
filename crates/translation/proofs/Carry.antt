-- A helper that takes carries, case by case.
use mathlib.Core.Path.{◌≡◌, refl, subst}
use mathlib.Core.Bool.{Bool, true, false, ◌||◌, true≢false}
use mathlib.Core.List.{[], ◌∷◌, ◌++◌}
use Prim.Native.Nat.{ℕ}
use Rattle.strip.specs.declared.reader.Entry.TheVariants as Entry
use Rattle.std.specs.Prelude.{Option, None, Some, is_some, option_to_list, unwrap_or}
use Rattle.translation.specs.Helpers.{set_cc, set_sum_cc, add_with_flags}
use Rattle.translation.specs.Emit.{Buffer, Value, Summed, carry_added, Makes, Writes, Does}
use Rattle.translation.proofs.Follow.{by-ret, by-op, by-act, by_call, by-yes, by-no}

-- `set_cc`: the four flags are stored, of the words that are given
pub set-cc : (c o : Option ℕ) {b b₁ b₂ b₃ b₄ : Buffer} {m₁ m₂ m₃ m₄ : Value} {v x y : ℕ}
    → Makes b m₁ (Entry.Word 0) → Makes m₁.buffer m₂ (Entry.Two 60 v m₁.number) → Makes m₂.buffer m₃ (Entry.Two 66 v m₁.number) → Makes m₃.buffer m₄ (Entry.Bare 3)
    → Writes m₄.buffer b₁ (Entry.Store 9 0 m₂.number) → Writes b₁ b₂ (Entry.Store 9 1 m₃.number) → x ≡ unwrap_or c m₄.number → Writes b₂ b₃ (Entry.Store 9 2 x)
    → y ≡ unwrap_or o m₄.number → Writes b₃ b₄ (Entry.Store 9 3 y)
    → Does b (record { buffer = b₄; number = v }) (set_cc (is_some c) (is_some o)) (v ∷ option_to_list c ++ option_to_list o)
unfolding set_cc
set-cc c o {b} {b₁} {b₂} {b₃} {b₄} {m₁} {m₂} {m₃} {m₄} {v} p q r t z s ex wc ey wo =
    go c o (subst (λ (n : ℕ). Writes b₂ b₃ (Entry.Store 9 2 n)) ex wc) (subst (λ (n : ℕ). Writes b₃ b₄ (Entry.Store 9 3 n)) ey wo)
  where
    go : (c o : Option ℕ) → Writes b₂ b₃ (Entry.Store 9 2 (unwrap_or c m₄.number)) → Writes b₃ b₄ (Entry.Store 9 3 (unwrap_or o m₄.number))
        → Does b (record { buffer = b₄; number = v }) (set_cc (is_some c) (is_some o)) (v ∷ option_to_list c ++ option_to_list o)
    go None None f g = by-op p (by-op q (by-op r (by-op t (by-act z (by-act s (by-act f (by-act g by-ret)))))))
    go None (Some m) f g = by-op p (by-op q (by-op r (by-op t (by-act z (by-act s (by-act f (by-act g by-ret)))))))
    go (Some n) None f g = by-op p (by-op q (by-op r (by-op t (by-act z (by-act s (by-act f (by-act g by-ret)))))))
    go (Some n) (Some m) f g = by-op p (by-op q (by-op r (by-op t (by-act z (by-act s (by-act f (by-act g by-ret)))))))

-- `add_with_flags`: with a carry in or with flags
pub sum-carried : (c : Option ℕ) (cc : Bool) {b : Buffer} {m₁ m₂ n : Value} {s : Summed} {a d : ℕ} → is_some c || cc ≡ true
    → Makes b m₁ (Entry.Two 40 a d) → Makes m₁.buffer m₂ (Entry.Two 62 m₁.number a) → s ≡ carry_added c m₁.number m₂.number m₂.buffer
    → Does s.buffer n (set_sum_cc cc) (a ∷ d ∷ s.number ∷ s.carry ∷ []) → Does b n (add_with_flags (is_some c) cc) (a ∷ d ∷ option_to_list c)
unfolding add_with_flags carry_added
sum-carried c cc {b} {m₁} {m₂} {n} {s} {a} {d} e p q t r = go c e (subst Flags t r)
  where
    Flags : Summed → Type 0
    Flags s = Does s.buffer n (set_sum_cc cc) (a ∷ d ∷ s.number ∷ s.carry ∷ [])

    go : (c : Option ℕ) → is_some c || cc ≡ true → Flags (carry_added c m₁.number m₂.number m₂.buffer) → Does b n (add_with_flags (is_some c) cc) (a ∷ d ∷ option_to_list c)
    go None e r = by-yes e (by-op p (by-op q (by_call r by-ret)))
    go (Some k) e r = by-op p (by-op q (by-op (record { is = refl }) (by-op (record { is = refl }) (by-op (record { is = refl }) (by_call r by-ret)))))

-- and without both
pub sum-alone : (c : Option ℕ) (cc : Bool) {b : Buffer} {m : Value} {a d : ℕ} → is_some c || cc ≡ false → Makes b m (Entry.Two 40 a d)
    → Does b m (add_with_flags (is_some c) cc) (a ∷ d ∷ option_to_list c)
unfolding add_with_flags
sum-alone None cc e p = by-no e (by-op p by-ret)
sum-alone (Some k) cc e p = absurd (true≢false e)
