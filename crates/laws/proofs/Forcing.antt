-- The laws of forcing, each by induction over the moves left: at every position the game is over, or it is player m's turn, or another's.
use Rattle.std.proofs.Common.{◌≡◌, ℕ, zero, suc, ◌+◌, ◌-◌, ◌<◌, ◌≤◌, Bool, true, false, not, ◌&&◌, eqb, leb, ◌≢◌, List, [], ◌∷◌, length, sym, refl, ap, ◌∙◌, inl, inr, ⊎_elim, arith}
use Rattle.std.proofs.lemmas.Bool.{cases_eq, cases_Bool, both_ways, leb-true, le-leb, eq-eqb, ne_eqb, true≢false, and_left, or_parts, cond-true, cond-false}
use Rattle.std.proofs.lemmas.Bool.Decides.{nat_tests}
use Rattle.rules.specs.declared.Move.{Move}
use Rattle.rules.specs.Rules.{Position, Game, turn, is_legal, apply}
use Rattle.rules.specs.Play.{legal_moves, is_over, payoff}
use Rattle.rules.specs.Force.{can_force, after_some, after_every}
use Rattle.laws.specs.Forcing.{Plays, done, mine, theirs, wrong, late, Wins, EndsIn, ForcedIsPlayed, EveryWayHasAPlay, PlayedIsForced, MoreMoves, SmallerGain, OneOrTheOther}
use Rattle.laws.specs.Listing.{Member}
use Rattle.laws.proofs.After.{first_after, some_gives, some_from, every_gives, every_from, some_not_every}
use Rattle.laws.proofs.Listing.{listed_is_legal, legal_is_listed}

-- a position as player m sees it
data Stage (g : Game) (m : ℕ) (p : Position) : Type 0 where
  over : is_over g p ≡ true → Stage g m p
  my_turn : is_over g p ≡ false → turn g p ≡ m → Stage g m p
  their_turn : is_over g p ≡ false → turn g p ≢ m → Stage g m p

stage : (g : Game) (m : ℕ) (p : Position) → Stage g m p
stage g m p = ⊎_elim over (λ o. ⊎_elim (my_turn o) (their_turn o) (cases_eq (turn g p) m)) (cases_Bool (is_over g p))

-- what can-force is at each stage
at_end : (g : Game) (m k d : ℕ) (p : Position) → is_over g p ≡ true → can_force g m k d p ≡ leb k (payoff g p m)
unfolding can_force
at_end g m k zero p o = ap (λ b. b && leb k (payoff g p m)) o
at_end g m k (suc d) p o = cond-true (is_over g p) _ _ o

too_late : (g : Game) (m k : ℕ) (p : Position) → is_over g p ≡ false → can_force g m k 0 p ≡ false
unfolding can_force
too_late g m k p o = and_left (is_over g p) (leb k (payoff g p m)) o

at_my_turn :
    (g : Game) (m k d : ℕ) (p : Position) → is_over g p ≡ false → turn g p ≡ m →
    can_force g m k (suc d) p ≡ after_some (can_force g m k d) g p (legal_moves g p)
unfolding can_force
at_my_turn g m k d p o t = cond-false (is_over g p) _ _ o ∙ cond-true (eqb (turn g p) m) _ _ (eq-eqb (turn g p) m t)

at_their_turn :
    (g : Game) (m k d : ℕ) (p : Position) → is_over g p ≡ false → turn g p ≢ m →
    can_force g m k (suc d) p ≡ after_every (can_force g m k d) g p (legal_moves g p)
unfolding can_force
at_their_turn g m k d p o t = cond-false (is_over g p) _ _ o ∙ cond-false (eqb (turn g p) m) _ _ (ne_eqb (turn g p) m t)

-- the same as facts about legal moves, both ways
end_gives : (g : Game) (m k d : ℕ) (p : Position) → is_over g p ≡ true → can_force g m k d p ≡ true → k ≤ payoff g p m
end_gives g m k d p o f = leb-true k (payoff g p m) (sym (at_end g m k d p o) ∙ f)

end_from : (g : Game) (m k d : ℕ) (p : Position) → is_over g p ≡ true → k ≤ payoff g p m → can_force g m k d p ≡ true
end_from g m k d p o l = at_end g m k d p o ∙ le-leb k (payoff g p m) l

-- the move to make: the first from which the gain can still be forced
abbrev forcing_way : Game → ℕ → ℕ → ℕ → Position → Move
forcing_way g m k d p = first_after (can_force g m k d) g p (legal_moves g p)

mine_gives :
    (g : Game) (m k d : ℕ) (p : Position) → is_over g p ≡ false → turn g p ≡ m → can_force g m k (suc d) p ≡ true →
    (is_legal g p (forcing_way g m k d p) ≡ true) × (can_force g m k d (apply g p (forcing_way g m k d p)) ≡ true)
mine_gives g m k d p o t f =
    let found = some_gives (can_force g m k d) g p (legal_moves g p) (sym (at_my_turn g m k d p o t) ∙ f) in
    (listed_is_legal g p (forcing_way g m k d p) found.0, found.1)

mine_from :
    (g : Game) (m k d : ℕ) (p : Position) → is_over g p ≡ false → turn g p ≡ m → (v : Move) → is_legal g p v ≡ true → can_force g m k d (apply g p v) ≡ true →
    can_force g m k (suc d) p ≡ true
mine_from g m k d p o t v l f = at_my_turn g m k d p o t ∙ some_from (can_force g m k d) g p v (legal_moves g p) (legal_is_listed g p v l) f

theirs_gives :
    (g : Game) (m k d : ℕ) (p : Position) → is_over g p ≡ false → turn g p ≢ m → can_force g m k (suc d) p ≡ true → (v : Move) → is_legal g p v ≡ true →
    can_force g m k d (apply g p v) ≡ true
theirs_gives g m k d p o t f v l =
    every_gives (can_force g m k d) g p v (legal_moves g p) (sym (at_their_turn g m k d p o t) ∙ f) (legal_is_listed g p v l)

theirs_from :
    (g : Game) (m k d : ℕ) (p : Position) → is_over g p ≡ false → turn g p ≢ m → ((v : Move) → is_legal g p v ≡ true → can_force g m k d (apply g p v) ≡ true) →
    can_force g m k (suc d) p ≡ true
theirs_from g m k d p o t fs =
    at_their_turn g m k d p o t ∙ every_from (can_force g m k d) g p (legal_moves g p) (λ v a. fs v (listed_is_legal g p v a))

-- what can be forced is what some way to play brings about
way_wins :
    (g : Game) (m k : ℕ) {d : ℕ} {p q : Position} → Plays g m (forcing_way g m k) d p q → can_force g m k d p ≡ true →
    (is_over g q ≡ true) × (k ≤ payoff g q m)
way_wins g m k (done {d} {p} o) f = (o, end_gives g m k d p o f)
way_wins g m k (mine {d} {p} o t l rest) f = way_wins g m k rest (mine_gives g m k d p o t f).1
way_wins g m k (theirs {d} {p} v o t l rest) f = way_wins g m k rest (theirs_gives g m k d p o t f v l)
way_wins g m k (wrong {d} {p} o t l) f = absurd (both_ways (is_legal g p (forcing_way g m k d p)) l (mine_gives g m k d p o t f).0)
way_wins g m k (late {p} o) f = absurd (both_ways (can_force g m k 0 p) (too_late g m k p o) f)

pub forced_is_played : ForcedIsPlayed
forced_is_played g m k d p f = (forcing_way g m k, λ q play. way_wins g m k play f)

wins_forced : (g : Game) (m k : ℕ) (way : ℕ → Position → Move) (d : ℕ) (p : Position) → Wins way g m k d p → can_force g m k d p ≡ true
wins_forced g m k way zero p w =
    ⊎_elim (λ o. end_from g m k 0 p o (w p (done o)).1) (λ o. absurd (both_ways (is_over g p) o (w p (late o)).0)) (cases_Bool (is_over g p))
wins_forced g m k way (suc d) p w =
    elim (stage g m p) [
      | over o ↦ end_from g m k (suc d) p o (w p (done o)).1
      | my_turn o t ↦
          ⊎_elim
          (λ l. mine_from g m k d p o t (way d p) l (wins_forced g m k way d (apply g p (way d p)) (λ q play. w q (mine o t l play))))
          (λ l. absurd (both_ways (is_over g p) o (w p (wrong o t l)).0))
          (cases_Bool (is_legal g p (way d p)))
      | their_turn o t ↦ theirs_from g m k d p o t (λ v l. wins_forced g m k way d (apply g p v) (λ q play. w q (theirs v o t l play)))
    ]

pub played_is_forced : PlayedIsForced
played_is_forced g m k d p (way, w) = wins_forced g m k way d p w

-- where a game is not over there is a legal move
some_among : (vs : List Move) → eqb (length vs) 0 ≡ false → (v : Move) × Member v vs
some_among [] h = absurd (true≢false h)
some_among (v ∷ vs) h = (v, inl refl)

some_legal : (g : Game) (p : Position) → is_over g p ≡ false → (v : Move) × (is_legal g p v ≡ true)
unfolding is_over
some_legal g p o =
    let (v, a) = some_among (legal_moves g p) (or_parts _ _ o).1 in
    (v, listed_is_legal g p v a)

pub every_way_has_a_play : EveryWayHasAPlay
every_way_has_a_play g m way zero p = ⊎_elim (λ o. (p, done o)) (λ o. (p, late o)) (cases_Bool (is_over g p))
every_way_has_a_play g m way (suc d) p =
    elim (stage g m p) [
      | over o ↦ (p, done o)
      | my_turn o t ↦
          ⊎_elim
          (λ l. let (q, play) = every_way_has_a_play g m way d (apply g p (way d p)) in (q, mine o t l play))
          (λ l. (p, wrong o t l))
          (cases_Bool (is_legal g p (way d p)))
      | their_turn o t ↦
          let (v, l) = some_legal g p o in
          let (q, play) = every_way_has_a_play g m way d (apply g p v) in
          (q, theirs v o t l play)
    ]

-- with more moves, a smaller gain can be forced
easier : (g : Game) (m j k d e : ℕ) (p : Position) → j ≤ k → d ≤ e → can_force g m k d p ≡ true → can_force g m j e p ≡ true
easier g m j k zero e p jk de f =
    ⊎_elim (λ o. end_from g m j e p o (omega (arith, end_gives g m k 0 p o f))) (λ o. absurd (both_ways (can_force g m k 0 p) (too_late g m k p o) f))
    (cases_Bool (is_over g p))
easier g m j k (suc d) zero p jk de f = absurd (omega arith)
easier g m j k (suc d) (suc e) p jk de f =
    elim (stage g m p) [
      | over o ↦ end_from g m j (suc e) p o (omega (arith, end_gives g m k (suc d) p o f))
      | my_turn o t ↦
          let v = forcing_way g m k d p in
          let (l, f') = mine_gives g m k d p o t f in
          mine_from g m j e p o t v l (easier g m j k d e (apply g p v) jk (omega arith) f')
      | their_turn o t ↦ theirs_from g m j e p o t (λ v l. easier g m j k d e (apply g p v) jk (omega arith) (theirs_gives g m k d p o t f v l))
    ]

pub more_moves : MoreMoves
more_moves g m k d e p f = easier g m k k d (d + e) p (omega arith) (omega arith) f

pub smaller_gain : SmallerGain
smaller_gain g m j k d p jk f = easier g m j k d d p jk (omega arith) f

not_flip : (a b : Bool) → a ≡ not b → b ≡ not a
not_flip a true e = ap not (sym e)
not_flip a false e = ap not (sym e)

-- below, m and n are the two players in either order, and k and j are together one more than what both gain
gain_together : (f : ℕ → ℕ) (c m n : ℕ) → m + n ≡ 1 → f 0 + f 1 ≡ c → f m + f n ≡ c
gain_together f c zero n e h = let s : n ≡ 1 = omega arith in rw s h
gain_together f c (suc m) n e h =
    let s : suc m ≡ 1 = omega arith in
    let t : n ≡ 0 = omega arith in
    rw (s, t) (omega arith)

enough_or_not : (a b c j k : ℕ) → a + b ≡ c → k + j ≡ suc c → leb k a ≡ not (leb j b)
enough_or_not a b c j k h s = grind (arith, nat_tests)

-- at an end, m has gained k just if n has not gained j
end_opposite :
    (g : Game) (c j k m n d : ℕ) (p : Position) → m + n ≡ 1 → k + j ≡ suc c → is_over g p ≡ true → payoff g p 0 + payoff g p 1 ≡ c →
    can_force g m k d p ≡ not (can_force g n j d p)
end_opposite g c j k m n d p mn kj o h =
    at_end g m k d p o ∙ enough_or_not (payoff g p m) (payoff g p n) c j k (gain_together (payoff g p) c m n mn h) kj ∙ ap not (sym (at_end g n j d p o))

-- the same at m's turn, where it holds after each move
turn_opposite :
    (g : Game) (j k m n d : ℕ) (p : Position) → is_over g p ≡ false → turn g p ≡ m → turn g p ≢ n →
    ((v : Move) → is_legal g p v ≡ true → can_force g m k d (apply g p v) ≡ not (can_force g n j d (apply g p v))) →
    can_force g m k (suc d) p ≡ not (can_force g n j (suc d) p)
turn_opposite g j k m n d p o t u opposite =
    at_my_turn g m k d p o t
    ∙ some_not_every (can_force g m k d) (can_force g n j d) g p (legal_moves g p) (λ v a. opposite v (listed_is_legal g p v a))
    ∙ ap not (sym (at_their_turn g n j d p o u))

turn_below : (g : Game) (p : Position) → g.players ≡ 2 → turn g p < 2
turn_below g p e = rw e (omega arith)

-- m can force k just if n cannot force j; at n's turn by the same lemma with m and n exchanged
opposite :
    (g : Game) (c j k m n d : ℕ) (p : Position) → g.players ≡ 2 → m + n ≡ 1 → k + j ≡ suc c → EndsIn g c d p →
    can_force g m k d p ≡ not (can_force g n j d p)
unfolding EndsIn
opposite g c j k m n zero p two mn kj (o, h) = end_opposite g c j k m n 0 p mn kj o h
opposite g c j k m n (suc d) p two mn kj (inl (o, h)) = end_opposite g c j k m n (suc d) p mn kj o h
opposite g c j k m n (suc d) p two mn kj (inr (o, next)) =
    let below : turn g p < 2 = turn_below g p two in
    ⊎_elim
    (λ (t : turn g p ≡ m). turn_opposite g j k m n d p o t (λ u. omega arith) (λ v l. opposite g c j k m n d (apply g p v) two mn kj (next v l)))
    (λ (t : turn g p ≡ m → ⊥).
    not_flip (can_force g n j (suc d) p) (can_force g m k (suc d) p)
    (turn_opposite g k j n m d p o (omega arith) t
    (λ v l. opposite g c k j n m d (apply g p v) two (omega arith) (omega arith) (next v l))))
    (cases_eq (turn g p) m)

pub one_or_the_other : OneOrTheOther
one_or_the_other g c k d m p two below kc ends = opposite g c (suc c - k) k m (1 - m) d p two (omega arith) (omega arith) ends
