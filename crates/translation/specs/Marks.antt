-- The use marks that code raises: the Rust's `cbuf_used`, one for each slot.
use Rattle.std.specs.Prelude.{true, false, List, ℕ, max, get_or, set}
use Rattle.translation.specs.Code.{Code, ret, op, act, call, mark, ite}

-- slot s is used up to n bytes
unfoldable pub raise : List ℕ → ℕ → ℕ → List ℕ
raise m s n = set m s (max (get_or m s 0) n)

unfoldable pub uses : Code → List ℕ → List ℕ
uses (ret l) m = m
uses (op e k) m = uses k m
uses (act e k) m = uses k m
uses (call c ls k) m = uses k (uses c m)
uses (mark s n k) m = uses k (raise m s n)
uses (ite true c d) m = uses c m
uses (ite false c d) m = uses d m
