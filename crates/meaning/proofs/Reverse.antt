-- The bits of a word in the opposite order, where a mode bit asks for it.
use mathlib.Core.Path.{◌≡◌, refl}
use mathlib.Core.Bool.{Bool, true, false}
use mathlib.Core.List.{List, [], ◌∷◌}
use Prim.Native.Nat.{ℕ, ◌^◌, ◌<◌}
use Rattle.evaluation.specs.declared.value.Value.TheVariants.{Word}
use Rattle.evaluation.specs.declared.state.State.{State}
use Rattle.evaluation.specs.Word.{unary_word}
use Rattle.evaluation.specs.Value.{with_word, unary}
use Rattle.evaluation.specs.Machine.{one_effect, value_at, effect_of}
use Rattle.translation.specs.Arms.{reverse_if}
use Rattle.meaning.specs.Number.{reversed}
use Rattle.meaning.specs.Meaning as M
use Rattle.translation.proofs.Sem.{ran, sem}
use Rattle.meaning.proofs.Digits.{from-lt, reversed-is}

pub reverse_if-sem : (cs : List ℕ) (s : State) (on : Bool) (x : ℕ) → x < 2 ^ 32 → sem cs (reverse_if on) (Word x ∷ []) s ≡ ran s (Word (M.reverse_if on x))
unfolding reverse_if M.reverse_if effect_of one_effect unary unary_word with_word value_at
reverse_if-sem cs s true x h = rw (reversed-is x h) refl
reverse_if-sem cs s false x h = refl

pub reverse_if-word : (on : Bool) (x : ℕ) → x < 2 ^ 32 → M.reverse_if on x < 2 ^ 32
unfolding M.reverse_if reversed
reverse_if-word true x h = from-lt 32 _
reverse_if-word false x h = h
