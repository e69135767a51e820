-- Memory after a move means the state after it.
use Rattle.std.proofs.Common.{◌≡◌, ℕ, ◌+◌, ◌-◌, ◌*◌, ◌<◌, ◌≤◌, false, cond, eqb, ◌≢◌, ◌⊎◌, List, [], ◌∷◌, ◌++◌, length, get_or, set, sym, refl, ap, ◌∙◌, subst, inl, inr, add-one, arith, length-set}
use Rattle.std.proofs.lemmas.List.{length_push, get_or-set_same, get_or-set_other, append-nil}
use Rattle.std.proofs.lemmas.Bool.{cases_order, cases_eq, eq-eqb, ne_eqb, cond-true, cond-false}
use Rattle.rules.specs.declared.Move.{Move}
use Rattle.rules.specs.declared.Limits.{Limits}
use Rattle.rules.specs.declared.Call.TheVariants.{Play}
use Rattle.rules.specs.Rules.{Game, apply}
use Rattle.rules.specs.Play.{is_over}
use Rattle.rules.specs.Calls.{Table, State, no_table, table_at, total_played, end_of, next}
use Rattle.tables.specs.Layout.{record_place, entry_place}
use Rattle.tables.specs.Changes.{flag, one_more, played_in}
use Rattle.tables.specs.Means.{Headed, Stored, Logged, Means, move_in, moves_of, link_of}
use Rattle.tables.proofs.Bounded.{few}
use Rattle.tables.proofs.Regions.{same_part, stride}
use Rattle.tables.proofs.Lists.{total_set}
use Rattle.tables.proofs.Chains.{same_moves, same_move, few_moves_of, same_link, link_here, link_before, link_place, link_below, link_away, links_apart}
use Rattle.tables.proofs.Standing.{sized, the_plan}
use Rattle.tables.proofs.Sitting.{stored_same}
use Rattle.tables.proofs.Moved.{Moved, moved}

-- the table after the move
abbrev pub table_after : Game → Table → Move → Table
table_after g u v = record { cells = apply g u.cells v; played = u.played ++ (v ∷ []); clocked = u.clocked; clocks = u.clocks; timed_out = false }

-- its record
stored_after :
    (g : Game) (w y : List ℕ) (a x k e : ℕ) (u : Table) (v : Move) → g.players ≤ 4 → length u.played ≤ 1000000
    → (x ≡ a + length g.start + 7) ⊎ (a + (length g.start + 9) ≤ x) → Moved g w y (length g.start) a x k e v → Stored w g a u
    → Stored y g a (table_after g u v)
unfolding end_of
stored_after g w y a x k e u v few small away m s =
    let n : ℕ = length g.start in
    let same : (j : ℕ) → j < 5 → get_or y (a + (n + j)) 0 ≡ get_or w (a + (n + j)) 0 =
    λ j h. m.kept (n + j) (omega arith) (omega arith) (omega arith) (omega arith) (elim away [ inl is ↦ omega arith | inr is ↦ omega arith ]) in
    let i4 : a + n + 4 ≡ a + (n + 4) = omega arith in
    let more : one_more (get_or w (a + n + 6) 0) ≡ length u.played + 1 = omega (arith, s.count) in
    record {
      cells = m.cells ∙ ap (λ c. apply g c v) s.cells;
      clocks =
          same_part w y (a + n) g.players m.long
          (λ i p q.
          let is : i ≡ a + (n + (i - (a + n))) = omega arith in
          ap (λ j. get_or y j 0) is ∙ (same (i - (a + n)) (omega arith) ∙ ap (λ j. get_or w j 0) (sym is)))
          ∙ s.clocks;
      clocked = ap (λ j. get_or y j 0) i4 ∙ (same 4 (omega arith) ∙ (ap (λ j. get_or w j 0) (sym i4) ∙ s.clocked));
      end = m.end ∙ ap (λ c. flag (is_over g (apply g c v))) s.cells;
      count = m.count ∙ (more ∙ sym (length_push u.played v));
    }

-- whose the entries are after the move: entry k is table t's
abbrev owner_after : (ℕ → ℕ) → ℕ → ℕ → ℕ → ℕ
owner_after owner k t j = cond (eqb j k) t (owner j)

owner_old : (owner : ℕ → ℕ) (k t j : ℕ) → j < k → owner_after owner k t j ≡ owner j
owner_old owner k t j h = cond-false _ _ _ (ne_eqb j k (omega arith))

owner_new : (owner : ℕ → ℕ) (k t : ℕ) → owner_after owner k t k ≡ t
owner_new owner k t = cond-true _ _ _ (eq-eqb k k refl)

-- the moves of each table
moves_after :
    (w y : List ℕ) (from k t r : ℕ) (owner : ℕ → ℕ) (v : Move) → ((j : ℕ) → j < k → move_in y (from + 4 * j) ≡ move_in w (from + 4 * j))
    → move_in y (from + 4 * k) ≡ v → moves_of y from (owner_after owner k t) r (k + 1) ≡ moves_of w from owner r k ++ cond (eqb t r) (v ∷ []) []
unfolding moves_of
moves_after w y from k t r owner v same here =
    let rest = same_moves w y from owner (owner_after owner k t) r k same (owner_old owner k t) in
    let own = owner_new owner k t in
    rw (add-one k) (simp (rest, here, own))

played_after :
    (ts : List Table) (g : Game) (t r : ℕ) (v : Move) → t < length ts
    → (get_or ts r no_table).played ++ cond (eqb t r) (v ∷ []) [] ≡ (get_or (set ts t (table_after g (get_or ts t no_table) v)) r no_table).played
played_after ts g t r v here =
    let u : Table = table_after g (get_or ts t no_table) v in
    elim (cases_eq t r) [
      | inl same ↦ rw (← same) (rw (get_or-set_same ts t u no_table here, eq-eqb t t refl) refl)
      | inr differ ↦ rw (get_or-set_other ts t r u no_table (λ e. differ (sym e)), ne_eqb t r differ) (append-nil _)
    ]

-- record words of different tables stand at different places
own_record : (n t r : ℕ) → record_place n r + n + 7 ≡ record_place n t + n + 7 → r ≡ t
own_record n t r same =
    elim (cases_order r t) [
      | inl e ↦ e
      | inr (inl less) ↦ absurd (omega (arith, stride n r t less))
      | inr (inr over) ↦ absurd (omega (arith, stride n t r over))
    ]

-- a word that named an entry still does
module _ (g : Game) (w y : List ℕ) (n tables t k : ℕ) (owner : ℕ → ℕ) (v : Move) (few : t < tables)
    (m : Moved g w y n (record_place n t) (link_of (record_place n t + n + 7) (entry_place n tables 0) owner t k) k (entry_place n tables k) v) where
  abbrev from : ℕ
  from = entry_place n tables 0

  abbrev first : ℕ → ℕ
  first r = record_place n r + n + 7

  abbrev x : ℕ
  x = link_of (first t) from owner t k

  before : (r : ℕ) → r < tables → record_place n r + (n + 9) ≤ from
  before r h = omega (arith, stride n r tables h)

  -- outside of the table's record
  outside : (i : ℕ) → 16 ≤ i → i < from → (i < record_place n t) ⊎ (record_place n t + (n + 9) ≤ i) → get_or y i 0 ≡ get_or w i 0
  outside i low high away =
      let b = before t few in
      let nx : i ≢ x = elim (link_away (first t) from owner t k)
      [ inl e ↦ elim away [ inl q ↦ omega arith | inr q ↦ omega arith ] | inr e ↦ omega arith ] in
      m.other i (omega arith) nx (inl (omega arith)) away

  -- a record word of another table
  pub another : (r i : ℕ) → r < tables → r ≢ t → record_place n r ≤ i → i < record_place n r + (n + 9) → get_or y i 0 ≡ get_or w i 0
  another r i h ne low high =
      let b = before r h in
      elim (cases_order r t) [
        | inl e ↦ absurd (ne e)
        | inr (inl less) ↦ let s = stride n r t less in outside i (omega arith) (omega arith) (inl (omega arith))
        | inr (inr over) ↦ let s = stride n t r over in outside i (omega arith) (omega arith) (inr (omega arith))
      ]

  -- the words of the entries before
  earlier : (i : ℕ) → from ≤ i → i < from + 4 * k → i ≢ x → get_or y i 0 ≡ get_or w i 0
  earlier i low high nx =
      let b = before t few in
      m.other i (omega arith) nx (inl (omega arith)) (inr (omega arith))

  pub entries_stay : (j : ℕ) → j < k → move_in y (from + 4 * j) ≡ move_in w (from + 4 * j)
  entries_stay j h =
      let b = before t few in
      same_move w y (from + 4 * j) (λ i p q.
      let nx : i ≢ x = elim (link_place (first t) from owner t k) [ inl e ↦ omega arith | inr e ↦ omega arith ] in
      earlier i (omega arith) (omega arith) nx)

  pub names_stay : (j : ℕ) → j < k → owner j < tables → get_or y (link_of (first (owner j)) from owner (owner j) j) 0 ≡ get_or w (link_of (first (owner j)) from owner (owner j) j) 0
  names_stay j h small =
      let z : ℕ = link_of (first (owner j)) from owner (owner j) j in
      let b = before t few in
      let c = before (owner j) small in
      let apart : z ≢ x = links_apart (first (owner j)) (first t) from owner t (owner j) j k (omega arith) (omega arith) (own_record n t (owner j)) h refl in
      elim (link_place (first (owner j)) from owner (owner j) j) [
        | inl e ↦
            elim (cases_eq (owner j) t) [
              | inl is ↦
                  let at : z ≡ record_place n t + (n + 7) = e ∙ (ap first is ∙ omega arith) in
                  ap (λ i. get_or y i 0) at
                  ∙ (m.kept (n + 7) (omega arith) (omega arith) (omega arith) (omega arith) (λ q. apart (at ∙ q)) ∙ ap (λ i. get_or w i 0) (sym at))
              | inr differ ↦ another (owner j) z small differ (omega arith) (omega arith)
            ]
        | inr e ↦ earlier z (omega arith) (omega arith) apart
      ]

  abbrev own : ℕ → ℕ
  own = owner_after owner k t

  pub owned_after : (c : ℕ) → ((j : ℕ) → j < k → owner j < c) → t < c → (j : ℕ) → j < k + 1 → own j < c
  owned_after c owned h j lt =
      elim (cases_eq j k) [
        | inl same ↦ subst (λ i. own i < c) (sym same) (subst (λ r. r < c) (sym (owner_new owner k t)) h)
        | inr differ ↦ subst (λ r. r < c) (sym (owner_old owner k t j (omega arith))) (owned j (omega arith))
      ]

  pub named_after :
      ((j : ℕ) → j < k → owner j < tables) → ((j : ℕ) → j < k → get_or w (link_of (first (owner j)) from owner (owner j) j) 0 ≡ j)
      → (j : ℕ) → j < k + 1 → get_or y (link_of (first (own j)) from own (own j) j) 0 ≡ j
  named_after small named j lt =
      elim (cases_eq j k) [
        | inl same ↦
            subst (λ i. get_or y (link_of (first (own i)) from own (own i) i) 0 ≡ i) (sym same)
            (subst (λ r. get_or y (link_of (first r) from own r k) 0 ≡ k) (sym (owner_new owner k t))
            (ap (λ i. get_or y i 0) (same_link (first t) from owner own t k (owner_old owner k t)) ∙ m.names))
        | inr differ ↦
            let lj : j < k = omega arith in
            subst (λ r. get_or y (link_of (first r) from own r j) 0 ≡ j) (sym (owner_old owner k t j lj))
            (ap (λ i. get_or y i 0) (same_link (first (owner j)) from owner own (owner j) j (λ i q. owner_old owner k t i (omega arith)))
            ∙ (names_stay j lj (small j lj) ∙ named j lj))
      ]

  pub awaits_after :
      (r : ℕ) → r < tables → get_or w (record_place n r + n + 8) 0 ≡ link_of (first r) from owner r k
      → get_or y (record_place n r + n + 8) 0 ≡ link_of (first r) from own r (k + 1)
  awaits_after r h was =
      elim (cases_eq r t) [
        | inl same ↦
            let here : link_of (first t) from own t (k + 1) ≡ from + 4 * k + 3 =
            ap (λ i. link_of (first t) from own t i) (add-one k) ∙ link_here (first t) from own t k (owner_new owner k t) in
            let e : entry_place n tables k + 3 ≡ from + 4 * k + 3 = omega arith in
            subst (λ i. get_or y (record_place n i + n + 8) 0 ≡ link_of (first i) from own i (k + 1)) (sym same) (m.next ∙ (e ∙ sym here))
        | inr differ ↦
            let b = before r h in
            let here : link_of (first r) from own r (k + 1) ≡ link_of (first r) from owner r k =
            ap (λ i. link_of (first r) from own r i) (add-one k)
            ∙ (link_before (first r) from own r k (λ q. differ (sym (sym (owner_new owner k t) ∙ q)))
            ∙ same_link (first r) from owner own r k (owner_old owner k t)) in
            another r (record_place n r + n + 8) h differ (omega arith) (omega arith) ∙ (was ∙ sym here)
      ]

-- the move in memory, and where the word stands that then names its entry
pub record Made (w : List ℕ) (l : Limits) (s : State) (t x : ℕ) (v : Move) : Type 0 where
  pub moved :
      Moved s.game w (played_in s.game w (the_plan l s) t v) (length s.game.start) (record_place (length s.game.start) t) x
      (total_played s.tables) (entry_place (length s.game.start) l.tables (total_played s.tables)) v
  pub away :
      (x ≡ record_place (length s.game.start) t + length s.game.start + 7)
      ⊎ (record_place (length s.game.start) t + (length s.game.start + 9) ≤ x)
  pub high : x < entry_place (length s.game.start) l.tables (total_played s.tables)
  pub inside : t < l.tables
  pub few_here : length (table_at s t).played ≤ 1000000

pub made :
    (rules w : List ℕ) (l : Limits) (s : State) (t : ℕ) (v : Move) (m : Means rules w l s) → t < length s.tables → total_played s.tables < l.moves
    → Made w l s t
    (link_of (record_place (length s.game.start) t + length s.game.start + 7) (entry_place (length s.game.start) l.tables 0) m.log.owner t
    (total_played s.tables)) v
made rules w l s t v m here free =
    let g : Game = s.game in
    let n : ℕ = length g.start in
    let k : ℕ = total_played s.tables in
    let a : ℕ = record_place n t in
    let from : ℕ = entry_place n l.tables 0 in
    let e : ℕ = entry_place n l.tables k in
    let o : Logged w n from s = m.log in
    let f = few l m.limits in
    let inside : t < l.tables = omega (arith, m.few_tables) in
    let before : a + (n + 9) ≤ record_place n l.tables = stride n t l.tables inside in
    let fits : e + 4 ≤ length w = omega (arith, m.room) in
    let x : ℕ = link_of (a + n + 7) from o.owner t k in
    let low : a + n + 7 < from = omega arith in
    let away : (x ≡ a + n + 7) ⊎ (a + (n + 9) ≤ x) = elim (link_away (a + n + 7) from o.owner t k) [ inl q ↦ inl q | inr q ↦ inr (omega arith) ] in
    let high : x < e = omega (arith, link_below (a + n + 7) from o.owner t k low) in
    let played-here : length (table_at s t).played ≤ k = rw (o.moves t) at (few_moves_of w from o.owner t k) in
    record {
      moved = moved g w (the_plan l s) t x e v refl (sym (o.awaits t here)) (omega arith) fits away high;
      away = away;
      high = high;
      inside = inside;
      few_here = omega (arith, f.moves);
    }

pub play_means :
    (rules w : List ℕ) (l : Limits) (s : State) (t : ℕ) (p : ℕ) (v : Move) → Means rules w l s → t < length s.tables → total_played s.tables < l.moves
    → Means rules (played_in s.game w (the_plan l s) t v) l (next s (Play t p v))
unfolding next
play_means rules w l s t p v m here free =
    let g : Game = s.game in
    let n : ℕ = length g.start in
    let k : ℕ = total_played s.tables in
    let a : ℕ = record_place n t in
    let from : ℕ = entry_place n l.tables 0 in
    let e : ℕ = entry_place n l.tables k in
    let o : Logged w n from s = m.log in
    let h : Headed w l s = m.head in
    let z = sized g m.good in
    let d = made rules w l s t v m here free in
    let x : ℕ = link_of (a + n + 7) from o.owner t k in
    let y : List ℕ = played_in g w (the_plan l s) t v in
    let c : Moved g w y n a x k e v = d.moved in
    let inside : t < l.tables = d.inside in
    let away : (x ≡ a + n + 7) ⊎ (a + (n + 9) ≤ x) = d.away in
    let u : Table = table_at s t in
    let ts = set s.tables t (table_after g u v) in
    let grown : length (u.played ++ (v ∷ [])) ≡ length u.played + 1 = length_push u.played v in
    let all : total_played ts ≡ k + 1 = total_set s.tables t (table_after g u v) here grown in
    let many : length ts ≡ length s.tables = length-set s.tables t (table_after g u v) in
    let own : ℕ → ℕ = owner_after o.owner k t in
    let last : from + 4 * k ≡ e = omega arith in
    let small : (j : ℕ) → j < k → o.owner j < l.tables = λ j q. let b = o.owned j q in omega (arith, m.few_tables) in
    let header : (i : ℕ) → i < 16 → i ≢ 10 → get_or y i 0 ≡ get_or w i 0 =
    λ i q ne. c.other i ne (elim away [ inl b ↦ omega arith | inr b ↦ omega arith ]) (inl (omega arith)) (inl (omega arith)) in
    record {
      game = m.game;
      good = m.good;
      limits = m.limits;
      few_tables = rw many m.few_tables;
      few_moves = rw all (omega arith);
      room = rw c.long m.room;
      head = record {
        marked = header 0 (omega arith) (omega arith) ∙ h.marked;
        tables = header 1 (omega arith) (omega arith) ∙ h.tables;
        moves = header 2 (omega arith) (omega arith) ∙ h.moves;
        positions = header 3 (omega arith) (omega arith) ∙ h.positions;
        cells = header 4 (omega arith) (omega arith) ∙ h.cells;
        players = header 5 (omega arith) (omega arith) ∙ h.players;
        rules_size = header 6 (omega arith) (omega arith) ∙ h.rules_size;
        scratch_size = header 7 (omega arith) (omega arith) ∙ h.scratch_size;
        answer_size = header 8 (omega arith) (omega arith) ∙ h.answer_size;
        seated = header 9 (omega arith) (omega arith) ∙ (h.seated ∙ sym many);
        played = c.total ∙ sym all;
      };
      each = λ r lt.
          let lr : r < length s.tables = omega (arith, many) in
          elim (cases_eq r t) [
            | inl same ↦
                rw (same, get_or-set_same s.tables t (table_after g u v) no_table here)
                (stored_after g w y a x k e u v z.players d.few_here away c (m.each t here))
            | inr differ ↦
                rw (get_or-set_other s.tables t r (table_after g u v) no_table differ)
                (stored_same w y g (record_place n r) (table_at s r) c.long z.players
                (λ i b q. another g w y n l.tables t k o.owner v inside c r i (omega (arith, m.few_tables)) differ b (omega arith)) (m.each r lr))
          ];
      log = record {
        owner = own;
        owned = λ j lt. rw many (owned_after g w y n l.tables t k o.owner v inside c (length s.tables) o.owned here j (omega arith));
        moves = λ r.
            ap (λ i. moves_of y from own r i) all
            ∙ (moves_after w y from k t r o.owner v (entries_stay g w y n l.tables t k o.owner v inside c) (ap (λ i. move_in y i) last ∙ c.entry)
            ∙ (ap (λ q. q ++ cond (eqb t r) (v ∷ []) []) (o.moves r) ∙ played_after s.tables g t r v here));
        named = λ j lt. named_after g w y n l.tables t k o.owner v inside c small o.named j (omega arith);
        awaits = λ r lt.
            let lr : r < length s.tables = omega (arith, many) in
            awaits_after g w y n l.tables t k o.owner v inside c r (omega (arith, m.few_tables)) (o.awaits r lr)
            ∙ ap (λ i. link_of (record_place n r + n + 7) from own r i) (sym all);
      };
    }
