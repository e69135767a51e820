-- Lists of tables: how many moves were played at all of them.
use Rattle.std.proofs.Common.{◌≡◌, ℕ, zero, suc, ◌+◌, ◌<◌, List, [], ◌∷◌, ◌++◌, length, get_or, set, refl, arith}
use Rattle.rules.specs.Calls.{Table, no_table, total_played}

pub total_push : (ts : List Table) (u : Table) → total_played (ts ++ (u ∷ [])) ≡ total_played ts + length u.played
unfolding total_played
total_push [] u = omega arith
total_push (t ∷ ts) u = omega (arith, total_push ts u)

pub total_set :
    (ts : List Table) (t : ℕ) (u : Table) → t < length ts → length u.played ≡ length (get_or ts t no_table).played + 1
    → total_played (set ts t u) ≡ total_played ts + 1
unfolding total_played
total_set [] t u l e = absurd (omega arith)
total_set (x ∷ xs) zero u l e = omega arith
total_set (x ∷ xs) (suc t) u l e = omega (arith, total_set xs t u (omega arith) e)

-- the moves of every table stay when a table with none is added
pub played_push : (ts : List Table) (u : Table) (t : ℕ) → u.played ≡ [] → (get_or (ts ++ (u ∷ [])) t no_table).played ≡ (get_or ts t no_table).played
played_push [] u zero e = e
played_push [] u (suc t) e = refl
played_push (x ∷ xs) u zero e = refl
played_push (x ∷ xs) u (suc t) e = played_push xs u t e
