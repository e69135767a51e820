-- What each call does to the tables, first where it is taken, and then by `step`, which takes it or leaves the state as it is.
use Rattle.std.proofs.Common.{◌≡◌, ℕ, zero, suc, ◌-◌, ◌<◌, ◌≤◌, Bool, false, cond, not, ◌&&◌, eqb, ◌≢◌, ◌⊎◌, List, [], ◌∷◌, ◌++◌, length, get_or, set, sym, refl, ap, ◌∙◌, inl, inr, ⊎_elim, arith}
use Rattle.std.proofs.lemmas.Bool.{cases_eq, cond_both, cond-true, eq-eqb, eqb-false, true≢false, both_ways, not-true, and_parts, and_from, not_from_false}
use Rattle.std.proofs.lemmas.List.{length-set, get_or_append_left, get_or_push, get_or-set_same, get_or-set_other}
use Rattle.rules.specs.declared.Limits.{Limits}
use Rattle.rules.specs.declared.Call.{Call}
use Rattle.rules.specs.declared.Call.TheVariants.{Sit, Play, Ticks, See, May, Back, CanForce}
use Rattle.rules.specs.Rules.{Game, turn}
use Rattle.rules.specs.Calls.{Table, State, Stage, no_table, table_at, table_over, ticked, all_ticked, refusal, next, step, number, answer, reply}
use Rattle.laws.specs.Clocks.{ClocksOnlyFall, ClocksRan, TableTicked, Ticked, TicksTakeFromWhoseTurn, is_at, TablesApart, GameStays, new_with, NewTable}

-- what holds of the state that a call leads to where it is taken, and of the state that was, holds after the call
pub after_step : (can : Stage) (l : Limits) (s : State) (c : Call) (P : State → Type 0) → P (next s c) → P s → P (step can l s c)
unfolding step
after_step can l s c P taken left = cond_both (eqb (refusal can l s c) 0) (next s c) s P (λ _. taken) (λ _. left)

pub step_taken : (can : Stage) (l : Limits) (s : State) (c : Call) → refusal can l s c ≡ 0 → step can l s c ≡ next s c
unfolding step
step_taken can l s c e = cond-true (eqb (refusal can l s c) 0) (next s c) s (eq-eqb _ 0 e)

-- no call changes the game
next_game : (s : State) (c : Call) → (next s c).game ≡ s.game
unfolding next
next_game s (Sit n) = refl
next_game s (Play t m v) = refl
next_game s (Ticks n) = refl
next_game s (See t) = refl
next_game s (May t) = refl
next_game s (Back t n) = refl
next_game s (CanForce t m k d) = refl

pub game_stays : GameStays
game_stays can l s c = after_step can l s c (λ after. after.game ≡ s.game) (next_game s c) refl

-- a call that is not at a table leaves it as it is
next_apart : (s : State) (c : Call) (t : ℕ) → t < length s.tables → is_at c t ≡ false → table_at (next s c) t ≡ table_at s t
unfolding next
next_apart s (Sit n) t h e = get_or_append_left s.tables _ no_table t h
next_apart s (Play u m v) t h e = get_or-set_other s.tables u t _ no_table (λ p. eqb-false u t e (sym p))
next_apart s (Ticks n) t h e = absurd (true≢false e)
next_apart s (See u) t h e = refl
next_apart s (May u) t h e = refl
next_apart s (Back u n) t h e = refl
next_apart s (CanForce u m k d) t h e = refl

pub tables_apart : TablesApart
tables_apart can l s c t h e = after_step can l s c (λ after. table_at after t ≡ table_at s t) (next_apart s c t h e) refl

-- a new table comes behind the others
next_sit : (s : State) (n : ℕ) → (next s (Sit n)).tables ≡ s.tables ++ (new_with s.game n ∷ [])
unfolding next
next_sit s n = refl

sit_answer : (can : Stage) (l : Limits) (s : State) (n : ℕ) → refusal can l s (Sit n) ≡ 0 → answer can l s (Sit n) ≡ number (length s.tables)
unfolding answer reply
sit_answer can l s n e = cond-true _ _ _ (eq-eqb _ 0 e)

pub new_table : NewTable
new_table can l s n e =
    let tables = ap (λ (after : State). after.tables) (step_taken can l s (Sit n) e) ∙ next_sit s n in
    (tables, sit_answer can l s n e, rw tables (get_or_push s.tables (new_with s.game n) no_table (length s.tables) refl))

-- ticks, table by table
length_ticked : (g : Game) (n : ℕ) (ts : List Table) → length (all_ticked g n ts) ≡ length ts
unfolding all_ticked
length_ticked g n [] = refl
length_ticked g n (u ∷ ts) = ap suc (length_ticked g n ts)

-- clocks run at a table that has them and is not over
abbrev runs : Game → Table → Bool
runs g u = u.clocked && not (table_over g u)

get_d_ticked :
    (g : Game) (n : ℕ) (ts : List Table) (t : ℕ) → t < length ts →
    get_or (all_ticked g n ts) t no_table ≡ cond (runs g (get_or ts t no_table)) (ticked g n (get_or ts t no_table)) (get_or ts t no_table)
unfolding all_ticked
get_d_ticked g n [] t h = absurd (omega arith)
get_d_ticked g n (u ∷ ts) zero h = refl
get_d_ticked g n (u ∷ ts) (suc t) h = get_d_ticked g n ts t (omega arith)

clocks_ran : (g : Game) (n : ℕ) (u : Table) → ClocksRan g n u (ticked g n u)
clocks_ran g n u =
    record {
      of_the_turn = λ h. get_or-set_same u.clocks (turn g u.cells) _ 0 h;
      of_others = λ i ne. get_or-set_other u.clocks (turn g u.cells) i _ 0 ne;
      how_many = length-set u.clocks (turn g u.cells) _;
      by_time = refl;
    }

table_ticked : (g : Game) (n : ℕ) (u : Table) → TableTicked g n u (cond (runs g u) (ticked g n u) u)
table_ticked g n u =
    cond_both (runs g u) (ticked g n u) u (TableTicked g n u)
    (λ e.
    let (has, goes_on) = and_parts u.clocked (not (table_over g u)) e in
    record {
      same_cells = refl;
      same_played = refl;
      same_clocked = refl;
      running = λ _ _. clocks_ran g n u;
      still = ⊎_elim (λ has-not. absurd (both_ways u.clocked has-not has)) (λ over. absurd (both_ways (table_over g u) (not-true _ goes_on) over));
    })
    (λ e. record {
      same_cells = refl;
      same_played = refl;
      same_clocked = refl;
      running = λ has goes_on. absurd (both_ways (runs g u) e (and_from u.clocked (not (table_over g u)) has (not_from_false _ goes_on)));
      still = λ _. refl;
    })

-- ticks that are taken
next_ticks : (s : State) (n : ℕ) → Ticked n s (next s (Ticks n))
unfolding next
next_ticks s n =
    record {
      same_game = refl;
      same_number = length_ticked s.game n s.tables;
      each = λ t h. rw (get_d_ticked s.game n s.tables t h) (table_ticked s.game n (table_at s t));
    }

pub ticks_take_from_whose_turn : TicksTakeFromWhoseTurn
ticks_take_from_whose_turn can l s n e = rw (step_taken can l s (Ticks n) e) (next_ticks s n)

-- a call other than ticks leaves all clocks as they are
next_clocks :
    (s : State) (c : Call) (t : ℕ) → t < length s.tables →
    ((n : ℕ) × (c ≡ Ticks n)) ⊎ ((table_at (next s c) t).clocks ≡ (table_at s t).clocks)
unfolding next
next_clocks s (Sit n) t h = inr (ap (λ (u : Table). u.clocks) (next_apart s (Sit n) t h refl))
next_clocks s (Play u m v) t h =
    inr
    (⊎_elim
    (λ (e : t ≡ u). rw e (ap (λ (x : Table). x.clocks) (get_or-set_same s.tables u _ no_table (rw e at h))))
    (λ (ne : t ≡ u → ⊥). ap (λ (x : Table). x.clocks) (get_or-set_other s.tables u t _ no_table ne))
    (cases_eq t u))
next_clocks s (Ticks n) t h = inl (n, refl)
next_clocks s (See u) t h = inr refl
next_clocks s (May u) t h = inr refl
next_clocks s (Back u n) t h = inr refl
next_clocks s (CanForce u m k d) t h = inr refl

-- less on one clock is no more on any
less_on_one : (xs : List ℕ) (k n i : ℕ) → get_or (set xs k (get_or xs k 0 - n)) i 0 ≤ get_or xs i 0
less_on_one [] k n i = omega arith
less_on_one (x ∷ xs) zero n zero = omega arith
less_on_one (x ∷ xs) zero n (suc i) = omega arith
less_on_one (x ∷ xs) (suc k) n zero = omega arith
less_on_one (x ∷ xs) (suc k) n (suc i) = less_on_one xs k n i

ticks_fall :
    (s : State) (n t i : ℕ) → t < length s.tables → get_or (table_at (next s (Ticks n)) t).clocks i 0 ≤ get_or (table_at s t).clocks i 0
unfolding next
ticks_fall s n t i h =
    let u = table_at s t in
    rw (get_d_ticked s.game n s.tables t h)
    (cond_both (runs s.game u) (ticked s.game n u) u (λ v. get_or v.clocks i 0 ≤ get_or u.clocks i 0)
    (λ _. less_on_one u.clocks (turn s.game u.cells) n i) (λ _. omega arith))

pub clocks_only_fall : ClocksOnlyFall
clocks_only_fall can l s c t i h =
    after_step can l s c
    (λ after.
    (get_or (table_at after t).clocks i 0 ≤ get_or (table_at s t).clocks i 0)
    × (((n : ℕ) → c ≢ Ticks n) → (table_at after t).clocks ≡ (table_at s t).clocks))
    (⊎_elim
    (λ (n, e). (rw e (ticks_fall s n t i h), λ not-ticks. absurd (not-ticks n e)))
    (λ e. (rw e (omega arith), λ _. e))
    (next_clocks s c t h))
    (omega arith, λ _. refl)
