-- A new table in memory.
use Rattle.std.proofs.Common.{◌≡◌, ℕ, zero, suc, ◌+◌, ◌-◌, ◌*◌, ◌<◌, ◌≤◌, false, not, eqb, ◌≢◌, List, [], ◌∷◌, ◌++◌, length, get_or, take, drop, replicate, sym, refl, ap, ◌∙◌, inl, inr, add-one, arith, length-append}
use borrow.Rule.Slice.PartMut.{put_mid}
use lib.ListN.{length-replicate}
use Rattle.std.proofs.lemmas.List.{length-set, length_push, get_or-set_same, get_or-set_other, drop-set-lt, get_or_append_left, get_or-append_right, get_or_push, take_all, take_at, drop_at, take_more}
use Rattle.std.proofs.lemmas.Bool.{cases_order}
use Rattle.rules.specs.declared.Limits.{Limits}
use Rattle.rules.specs.declared.Call.TheVariants.{Sit}
use Rattle.rules.specs.Rules.{Game}
use Rattle.rules.specs.Play.{is_over}
use Rattle.rules.specs.Calls.{Table, State, no_table, table_at, total_played, end_of, next}
use Rattle.tables.specs.declared.plan.Plan.{Plan}
use Rattle.tables.specs.Layout.{record_place, entry_place}
use Rattle.tables.specs.Changes.{flag, start_cells, new_record, sat_in}
use Rattle.tables.specs.Means.{Headed, Stored, Logged, Means, moves_of, link_of}
use Rattle.tables.proofs.Regions.{Same, same_part, stride, mid_length, mid_below, mid_above, mid_part, inner_part, inner_word}
use Rattle.tables.proofs.Rows.{start_length}
use Rattle.tables.proofs.Lists.{total_push, played_push}
use Rattle.tables.proofs.Chains.{same_moves, same_move, link_first, link_place}
use Rattle.tables.proofs.Standing.{sized, the_plan}

-- the cells of a new table are the game's start
starts : (g : Game) (n : ℕ) → n ≤ length g.start → start_cells g n ≡ take n g.start
unfolding start_cells
starts g zero h = refl
starts g (suc n) h =
    ap (λ x. x ++ (get_or g.start n 0 ∷ [])) (starts g n (omega arith)) ∙ (sym (take_more g.start n 0 (omega arith)) ∙ ap (λ k. take k g.start) (add-one n))

pub all_start : (g : Game) → start_cells g (length g.start) ≡ g.start
all_start g = starts g (length g.start) (omega arith) ∙ take_all (length g.start) g.start (omega arith)

-- the parts of a new record
module _ (g : Game) (n players ticks a : ℕ) (few : players ≤ 4) where
  abbrev rest : List ℕ
  rest = flag (not (eqb ticks 0)) ∷ flag (is_over g (start_cells g n)) ∷ 0 ∷ 0 ∷ (a + n + 7) ∷ []

  abbrev row : List ℕ
  row = new_record g n players ticks a

  pub row_length : length row ≡ n + 9
  unfolding new_record
  row_length = simp (length-append, length-replicate, start_length) (omega arith)

  pub row_cells : take n row ≡ start_cells g n
  unfolding new_record
  row_cells = take_at (start_cells g n) _ n (start_length g n)

  row_tail : drop n row ≡ replicate players ticks ++ (replicate (4 - players) 0 ++ rest)
  unfolding new_record
  row_tail = drop_at (start_cells g n) _ n (start_length g n)

  pub row_clocks : take players (drop n row) ≡ replicate players ticks
  row_clocks = ap (λ x. take players x) row_tail ∙ take_at (replicate players ticks) _ players (length-replicate players ticks)

  pub row_rest : (i : ℕ) → get_or row (n + 4 + i) 0 ≡ get_or rest i 0
  unfolding new_record
  row_rest i =
      let tail : List ℕ = replicate (4 - players) 0 ++ rest in
      let last : n + 4 + i - n - players - (4 - players) ≡ i = omega arith in
      get_or-append_right (start_cells g n) (replicate players ticks ++ tail) n (n + 4 + i) 0 (start_length g n) (omega arith)
      ∙ (get_or-append_right (replicate players ticks) tail players (n + 4 + i - n) 0 (length-replicate players ticks) (omega arith)
      ∙ (get_or-append_right (replicate (4 - players) 0) rest (4 - players) (n + 4 + i - n - players) 0 (length-replicate {A = ℕ} (4 - players) 0) (omega arith)
      ∙ ap (λ k. get_or rest k 0) last))

-- what memory holds after a table was made
module _ (g : Game) (w : List ℕ) (p : Plan) (ticks : ℕ) (few : p.players ≤ 4)
    (fits : record_place p.cells p.seated + (p.cells + 9) ≤ length w) where
  abbrev at : ℕ
  at = record_place p.cells p.seated

  abbrev fresh : List ℕ
  fresh = new_record g p.cells p.players ticks at

  long : length fresh ≡ p.cells + 9
  long = row_length g p.cells p.players ticks at few

  pub sat_length : length (sat_in g w p ticks) ≡ length w
  unfolding sat_in
  sat_length = simp length-set (mid_length at (p.cells + 9) w fresh fits long)

  pub sat_below : (i : ℕ) → i < at → i ≢ 9 → get_or (sat_in g w p ticks) i 0 ≡ get_or w i 0
  unfolding sat_in
  sat_below i l ne = get_or-set_other _ 9 i (p.seated + 1) 0 ne ∙ mid_below at (p.cells + 9) w fresh fits long i l

  pub sat_above : (i : ℕ) → at + (p.cells + 9) ≤ i → get_or (sat_in g w p ticks) i 0 ≡ get_or w i 0
  unfolding sat_in
  sat_above i l = get_or-set_other _ 9 i (p.seated + 1) 0 (omega arith) ∙ mid_above at (p.cells + 9) w fresh fits long i l

  pub sat_count : get_or (sat_in g w p ticks) 9 0 ≡ p.seated + 1
  unfolding sat_in
  sat_count = get_or-set_same (put_mid at (p.cells + 9) w fresh) 9 (p.seated + 1) 0 (omega (arith, mid_length at (p.cells + 9) w fresh fits long))

  pub sat_row : take (p.cells + 9) (drop at (sat_in g w p ticks)) ≡ fresh
  unfolding sat_in
  sat_row = rw (drop-set-lt at (put_mid at (p.cells + 9) w fresh) 9 (p.seated + 1) (omega arith)) (mid_part at (p.cells + 9) w fresh fits long)

-- the record of the new table
stored_new :
    (g : Game) (v : List ℕ) (a ticks : ℕ) → g.players ≤ 4
    → take (length g.start + 9) (drop a v) ≡ new_record g (length g.start) g.players ticks a
    → Stored v g a (record { cells = g.start; played = []; clocked = not (eqb ticks 0); clocks = replicate g.players ticks; timed_out = false })
unfolding end_of
stored_new g v a ticks few e =
    let n : ℕ = length g.start in
    let row : List ℕ = new_record g n g.players ticks a in
    let word : (k i : ℕ) → k ≡ a + (n + 4 + i) → i < 5 → get_or v k 0 ≡ get_or (rest g n g.players ticks a few) i 0 =
    λ k i is h. ap (λ x. get_or v x 0) is ∙ (inner_word v row a (n + 9) e (n + 4 + i) (omega arith) ∙ row_rest g n g.players ticks a few i) in
    let here : a ≡ a + 0 = omega arith in
    record {
      cells = ap (λ k. take n (drop k v)) here ∙ (inner_part v row a (n + 9) e 0 n (omega arith) ∙ (row_cells g n g.players ticks a few ∙ all_start g));
      clocks = inner_part v row a (n + 9) e n g.players (omega arith) ∙ row_clocks g n g.players ticks a few;
      clocked = word (a + n + 4) 0 (omega arith) (omega arith);
      end = word (a + n + 5) 1 (omega arith) (omega arith) ∙ ap (λ x. flag (is_over g x)) (all_start g);
      count = word (a + n + 6) 2 (omega arith) (omega arith);
    }

-- its next entry, the first, is to be named in the record itself
link_new :
    (g : Game) (v : List ℕ) (a ticks : ℕ) → g.players ≤ 4
    → take (length g.start + 9) (drop a v) ≡ new_record g (length g.start) g.players ticks a
    → get_or v (a + length g.start + 8) 0 ≡ a + length g.start + 7
link_new g v a ticks few e =
    let n : ℕ = length g.start in
    let is : a + n + 8 ≡ a + (n + 4 + 4) = omega arith in
    ap (λ x. get_or v x 0) is
    ∙ (inner_word v (new_record g n g.players ticks a) a (n + 9) e (n + 4 + 4) (omega arith) ∙ row_rest g n g.players ticks a few 4)

-- a record that is not written
pub stored_same :
    (w v : List ℕ) (g : Game) (a : ℕ) (u : Table) → length v ≡ length w → g.players ≤ 4 → Same w v a (a + (length g.start + 7)) → Stored w g a u
    → Stored v g a u
stored_same w v g a u long few same s =
    let n : ℕ = length g.start in
    record {
      cells = same_part w v a n long (λ i p q. same i p (omega arith)) ∙ s.cells;
      clocks = same_part w v (a + n) g.players long (λ i p q. same i (omega arith) (omega arith)) ∙ s.clocks;
      clocked = same (a + n + 4) (omega arith) (omega arith) ∙ s.clocked;
      end = same (a + n + 5) (omega arith) (omega arith) ∙ s.end;
      count = same (a + n + 6) (omega arith) (omega arith) ∙ s.count;
    }

pub sat_means :
    (rules w : List ℕ) (l : Limits) (s : State) (ticks : ℕ) → Means rules w l s → length s.tables < l.tables
    → Means rules (sat_in s.game w (the_plan l s) ticks) l (next s (Sit ticks))
unfolding next
sat_means rules w l s ticks m free =
    let g : Game = s.game in
    let n : ℕ = length g.start in
    let c : ℕ = length s.tables in
    let a : ℕ = record_place n c in
    let p : Plan = the_plan l s in
    let z = sized g m.good in
    let few : g.players ≤ 4 = z.players in
    let before : a + (n + 9) ≤ record_place n l.tables = stride n c l.tables free in
    let fits : a + (n + 9) ≤ length w = omega (arith, m.room) in
    let v : List ℕ = sat_in g w p ticks in
    let long : length v ≡ length w = sat_length g w p ticks few fits in
    let below = sat_below g w p ticks few fits in
    let above = sat_above g w p ticks few fits in
    let u : Table = record { cells = g.start; played = []; clocked = not (eqb ticks 0); clocks = replicate g.players ticks; timed_out = false } in
    let all : total_played (s.tables ++ (u ∷ [])) ≡ total_played s.tables = total_push s.tables u ∙ omega arith in
    let more : length (s.tables ++ (u ∷ [])) ≡ c + 1 = length_push s.tables u in
    let h : Headed w l s = m.head in
    let o : Logged w n (entry_place n l.tables 0) s = m.log in
    let from : ℕ = entry_place n l.tables 0 in
    record {
      game = m.game;
      good = m.good;
      limits = m.limits;
      few_tables = omega arith;
      few_moves = rw all m.few_moves;
      room = rw long m.room;
      head = record {
        marked = below 0 (omega arith) (omega arith) ∙ h.marked;
        tables = below 1 (omega arith) (omega arith) ∙ h.tables;
        moves = below 2 (omega arith) (omega arith) ∙ h.moves;
        positions = below 3 (omega arith) (omega arith) ∙ h.positions;
        cells = below 4 (omega arith) (omega arith) ∙ h.cells;
        players = below 5 (omega arith) (omega arith) ∙ h.players;
        rules_size = below 6 (omega arith) (omega arith) ∙ h.rules_size;
        scratch_size = below 7 (omega arith) (omega arith) ∙ h.scratch_size;
        answer_size = below 8 (omega arith) (omega arith) ∙ h.answer_size;
        seated = sat_count g w p ticks few fits ∙ sym more;
        played = below 10 (omega arith) (omega arith) ∙ (h.played ∙ sym all);
      };
      each = λ t lt. elim (cases_order t c) [
        | inl same ↦ rw (same, get_or_push s.tables u no_table c refl) (stored_new g v a ticks few (sat_row g w p ticks few fits))
        | inr (inl less) ↦
            let apart = stride n t c less in
            rw (get_or_append_left s.tables (u ∷ []) no_table t less)
            (stored_same w v g (record_place n t) (table_at s t) long few (λ i x y. below i (omega arith) (omega arith)) (m.each t less))
        | inr (inr over) ↦ absurd (omega arith)
      ];
      log = record {
        owner = o.owner;
        owned = λ k lt. let b = o.owned k (omega arith) in omega arith;
        moves = λ t.
            ap (λ k. moves_of v from o.owner t k) all
            ∙ (same_moves w v from o.owner o.owner t (total_played s.tables) (λ j q. same_move w v (from + 4 * j) (λ i x y. above i (omega arith))) (λ j _. refl)
            ∙ (o.moves t ∙ sym (played_push s.tables u t refl)));
        named = λ k lt.
            let b = o.owned k (omega arith) in
            let apart = stride n (o.owner k) c b in
            let x : ℕ = link_of (record_place n (o.owner k) + n + 7) from o.owner (o.owner k) k in
            let kept : get_or v x 0 ≡ get_or w x 0 =
            elim (link_place (record_place n (o.owner k) + n + 7) from o.owner (o.owner k) k)
            [ inl e ↦ below x (omega arith) (omega arith) | inr e ↦ above x (omega arith) ] in
            kept ∙ o.named k (omega arith);
        awaits = λ t lt. elim (cases_order t c) [
          | inl same ↦
              let none : (j : ℕ) → j < total_played (s.tables ++ (u ∷ [])) → o.owner j ≡ c → ⊥ =
              λ j q e. let b = o.owned j (omega arith) in omega arith in
              rw same (link_new g v a ticks few (sat_row g w p ticks few fits) ∙ sym (link_first (a + n + 7) from o.owner c (total_played (s.tables ++ (u ∷ []))) none))
          | inr (inl less) ↦
              let apart = stride n t c less in
              below (record_place n t + n + 8) (omega arith) (omega arith)
              ∙ (o.awaits t less ∙ ap (λ k. link_of (record_place n t + n + 7) from o.owner t k) (sym all))
          | inr (inr over) ↦ absurd (omega arith)
        ];
      };
    }
