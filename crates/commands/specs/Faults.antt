-- What is done one after the other, as far as there is no fault. Assumes nothing: these are definitions.
use Rattle.std.specs.Prelude.{ℕ, ◌+◌, List, [], ◌∷◌, Ok, Err, Result}
use Rattle.commands.specs.declared.options.Fault.{Fault}

abbrev pub and_then : {X Y : Type 0} → Result X Fault → (X → Result Y Fault) → Result Y Fault
and_then (Ok x) f = f x
and_then (Err e) f = Err e

-- words taken by `with`, the first of which has the number i
unfoldable pub taken : {X : Type 0} → (X → List ℕ → ℕ → Result X Fault) → X → List (List ℕ) → ℕ → Result X Fault
taken with x [] i = Ok x
taken with x (w ∷ ws) i = and_then (with x w i) (λ y. taken with y ws (i + 1))
