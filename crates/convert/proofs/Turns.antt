-- A turn of a pass, as the code takes it.
use mathlib.Core.Path.{◌≡◌, refl, ap, ◌∙◌}
use mathlib.Core.Bool.{Bool, true, false, cond}
use mathlib.Core.List.{List}
use Prim.Native.Nat.{ℕ}
use lib.ListN.{length}
use lib.Seq.{sets, length-sets}
use Rattle.strip.specs.declared.reader.Entry.{Entry}
use Rattle.strip.specs.declared.shape.Shape.{Shape}
use Rattle.strip.specs.Entry.{encode}
use Rattle.strip.specs.Pass.{stepped}
use Rattle.strip.specs.Write.{Puts}
use Rattle.convert.specs.Pass.{Turns}

module _ (to : ℕ) (g : Shape) (writing : Bool) (e : Entry) (at : ℕ) where
  pub writes : {out out' : List ℕ} → writing ≡ true → Puts out at (encode to e) out' → Turns to g writing e out at out' g
  writes t p = record { shape = rw t refl; list = rw t p.is }

  pub tests : {out : List ℕ} (h : Shape) → writing ≡ false → h ≡ stepped g e → Turns to g writing e out at out h
  tests h f p = record { shape = rw f p; list = rw f refl }

pub length-turned : {to : ℕ} {g : Shape} {writing : Bool} {e : Entry} {out out' : List ℕ} {at : ℕ} {r : Shape} → Turns to g writing e out at out' r → length out' ≡ length out
length-turned {to} {g} {writing} {e} {out} {out'} {at} t = go writing t.list
  where
    go : (b : Bool) → out' ≡ cond b (sets out at (encode to e)) out → length out' ≡ length out
    go true p = ap length p ∙ length-sets out at (encode to e)
    go false p = ap length p
