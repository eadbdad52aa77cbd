-- A list with one element stored: each element is the new one or the old one.
-- Assumes nothing.
use mathlib.Core.List.{List, [], ◌∷◌}
use mathlib.Core.Logic.{◌⊎◌, inl, inr}
use mathlib.Core.Path.{◌≡◌, refl}
use Prim.Native.Nat.{ℕ, zero, suc}
use lib.ListN.{get_or, set}

pub stored : {A : Type 0} (l : List A) (i k : ℕ) (new d : A) → (get_or (set l i new) k d ≡ new) ⊎ (get_or (set l i new) k d ≡ get_or l k d)
stored [] i k new d = inr refl
stored (x ∷ l) zero zero new d = inl refl
stored (x ∷ l) zero (suc k) new d = inr refl
stored (x ∷ l) (suc i) zero new d = inr refl
stored (x ∷ l) (suc i) (suc k) new d = stored l i k new d
