-- What a server answers in bytes about a pile of 5: the answers of the meaning, in bytes.
use Rattle.std.proofs.Common.{◌≡◌, ℕ, ◌≤◌, true, false, List, [], ◌∷◌, map, refl, ap, ◌∙◌, arith}
use Rattle.std.proofs.lemmas.Bool.{and_parts, lt-ltb}
use Rattle.rules.specs.declared.Limits.{Limits}
use Rattle.rules.specs.declared.Move.{Move}
use Rattle.rules.specs.declared.Call.{Call}
use Rattle.rules.specs.declared.Call.TheVariants.{Sit, Play, See, May}
use Rattle.rules.specs.Play.{is_over}
use Rattle.rules.specs.Calls.{Answer, refused, number, shown, listed, State, call_number, total_played, good_fields, refusal_of, refusal, refusal_place, next, step, end_of, reply, answer, answers, opened}
use Rattle.rules.specs.Bounds.{readable, all_readable}
use Rattle.wire.specs.Calls.{call_bytes}
use Rattle.answers.specs.Answers.{answer_bytes}
use Rattle.laws.specs.Pile.{pile, taking}
use Rattle.laws.proofs.Pile.{left, pile_legal, pile_apply, pile_moves, pile_over}
use Rattle.session.specs.Calling.{stage}
use Rattle.session.specs.Promise.{answers_to}
use Rattle.session.proofs.Runs.{right}
use Rattle.promises.specs.Pile.{asked, told, PileByBytes}
use Rattle.promises.proofs.Every.{answered, stepped}

-- calls in bytes are answered by the answers in bytes
in_bytes : (l : Limits) (s : State) (cs : List Call) → all_readable cs ≡ true → answers_to l s (map call_bytes cs) ≡ map answer_bytes (answers stage l s cs)
unfolding answers_to answers all_readable
in_bytes l s [] ok = refl
in_bytes l s (c ∷ cs) ok =
    let p = and_parts (readable c) (all_readable cs) ok in
    let rest = ap (λ x. answers_to l x (map call_bytes cs)) (stepped l s c p.0) ∙ in_bytes l (step stage l s c) cs p.1 in
    λ i. answer_bytes (answered l s c p.0 i) ∷ rest i

-- the only table, with t to move and n in the pile, after these moves
abbrev at_table : ℕ → ℕ → List Move → State
at_table t n vs = record {
  game = pile 5;
  tables = record { cells = left t n; played = vs; clocked = false; clocks = 0 ∷ 0 ∷ []; timed_out = false } ∷ [];
}

-- one call more
one_more : (l : Limits) (s t : State) (c : Call) (a : Answer) (cs : List Call) (rs : List Answer) → answer stage l s c ≡ a → step stage l s c ≡ t
    → answers stage l t cs ≡ rs → answers stage l s (c ∷ cs) ≡ a ∷ rs
unfolding answers
one_more l s t c a cs rs says leads rest = let more = ap (λ x. answers stage l x cs) leads ∙ rest in λ i. says i ∷ more i

none_left : (l : Limits) (s : State) → answers stage l s [] ≡ []
unfolding answers
none_left l s = refl

module _ (l : Limits) (tables : 1 ≤ l.tables) (moves : 1 ≤ l.moves) where
  -- 5 are in the pile
  over_5 : is_over (pile 5) (left 0 5) ≡ false
  over_5 = pile_over 5 0 5 (omega arith)

  sit_says : answer stage l (opened (pile 5)) (Sit 0) ≡ number 0
  unfolding answer reply refusal refusal_of call_number good_fields
  sit_says = rw (lt-ltb 0 l.tables tables)

  sit_leads : step stage l (opened (pile 5)) (Sit 0) ≡ at_table 0 5 []
  unfolding step refusal refusal_of call_number good_fields next pile
  sit_leads = rw (lt-ltb 0 l.tables tables)

  may_says : answer stage l (at_table 0 5 []) (May 0) ≡ listed (taking 1 ∷ taking 2 ∷ taking 3 ∷ [])
  unfolding answer reply refusal refusal_of call_number good_fields
  may_says = rw (over_5, pile_moves 5 0 5 (omega arith))

  may_leads : step stage l (at_table 0 5 []) (May 0) ≡ at_table 0 5 []
  unfolding step refusal refusal_of call_number good_fields next
  may_leads = refl

  turn_says : answer stage l (at_table 0 5 []) (Play 0 1 (taking 1)) ≡ refused (record { number = 6; place = 1 })
  unfolding answer reply refusal refusal_of refusal_place call_number good_fields pile
  turn_says = rw over_5

  turn_leads : step stage l (at_table 0 5 []) (Play 0 1 (taking 1)) ≡ at_table 0 5 []
  unfolding step refusal refusal_of call_number good_fields pile
  turn_leads = rw over_5

  legal_says : answer stage l (at_table 0 5 []) (Play 0 0 (taking 0)) ≡ refused (record { number = 7; place = 2 })
  unfolding answer reply refusal refusal_of refusal_place call_number good_fields pile
  legal_says = rw (over_5, pile_legal 5 0 5 (taking 0) (omega arith))

  legal_leads : step stage l (at_table 0 5 []) (Play 0 0 (taking 0)) ≡ at_table 0 5 []
  unfolding step refusal refusal_of call_number good_fields pile
  legal_leads = rw (over_5, pile_legal 5 0 5 (taking 0) (omega arith))

  play_says : answer stage l (at_table 0 5 []) (Play 0 0 (taking 1)) ≡ number 1
  unfolding answer reply refusal refusal_of call_number good_fields total_played pile
  play_says = rw (over_5, pile_legal 5 0 5 (taking 1) (omega arith), lt-ltb 0 l.moves moves)

  play_leads : step stage l (at_table 0 5 []) (Play 0 0 (taking 1)) ≡ at_table 1 4 (taking 1 ∷ [])
  unfolding step refusal refusal_of call_number good_fields total_played next pile
  play_leads = rw (over_5, pile_legal 5 0 5 (taking 1) (omega arith), lt-ltb 0 l.moves moves, pile_apply 5 0 5 (taking 1) refl)

  -- 4 are in the pile
  see_says : answer stage l (at_table 1 4 (taking 1 ∷ [])) (See 0) ≡ shown (1 ∷ 4 ∷ []) 1 0 (0 ∷ 0 ∷ [])
  unfolding answer reply refusal refusal_of call_number good_fields end_of pile
  see_says = rw (pile_over 5 1 4 (omega arith))

  see_leads : step stage l (at_table 1 4 (taking 1 ∷ [])) (See 0) ≡ at_table 1 4 (taking 1 ∷ [])
  unfolding step refusal refusal_of call_number good_fields next
  see_leads = refl

  all_said : answers stage l (opened (pile 5)) asked ≡ told
  all_said =
      one_more l _ _ (Sit 0) _ _ _ sit_says sit_leads (one_more l _ _ (May 0) _ _ _ may_says may_leads
      (one_more l _ _ (Play 0 1 (taking 1)) _ _ _ turn_says turn_leads (one_more l _ _ (Play 0 0 (taking 0)) _ _ _ legal_says legal_leads
      (one_more l _ _ (Play 0 0 (taking 1)) _ _ _ play_says play_leads (one_more l _ _ (See 0) _ _ _ see_says see_leads (none_left l _))))))

pub pile_by_bytes : PileByBytes
unfolding all_readable readable
pile_by_bytes l z n u rs tables moves started run =
    right l (pile 5) z n u (map call_bytes asked) rs started run ∙ in_bytes l (opened (pile 5)) asked refl ∙ ap (map answer_bytes) (all_said l tables moves)
