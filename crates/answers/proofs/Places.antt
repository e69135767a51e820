-- Where the cells, clocks and moves of an answer stand in the bytes that it was read from.
use Rattle.std.proofs.Common.{◌≡◌, ℕ, ◌+◌, ◌*◌, ◌≤◌, Bool, List, length, Some, None, Option, cond, sym, refl, ap, ◌∙◌, subst, arith}
use Rattle.std.proofs.lemmas.Bool.{cond_both}
use Rattle.std.proofs.lemmas.List.{length-map}
use Rattle.rules.specs.Calls.{Answer, refused, number, shown, listed, forced}
use Rattle.wire.specs.Fields.{field_at, fields_at}
use Rattle.wire.proofs.FieldLists.{length_fields_at}
use Rattle.answers.specs.declared.Reply.{Reply}
use Rattle.answers.specs.declared.Reply.TheVariants.{Refused, Number, Shown, Listed, Forced}
use Rattle.answers.specs.Answers.{moves_at, whole, cell_count, after_cells, clock_count, shown_at, parse_answer}
use Rattle.answers.specs.Reading.{answer_of, Inside}
use Rattle.answers.specs.Parts.{numbers_in, moves_in}
use Rattle.answers.proofs.AnswerBytes.{length_moves_at, whole_some}

-- the places of an answer in its bytes
abbrev pub reply_of : Answer → Reply
reply_of (refused r) = Refused r
reply_of (number n) = Number n
reply_of (shown p t e cs) = Shown (record { at = 5; count = length p }) t e (record { at = 17 + 4 * length p; count = length cs })
reply_of (listed vs) = Listed (record { at = 5; count = length vs })
reply_of (forced n) = Forced n

-- there it stands
abbrev pub Placed : List ℕ → Answer → Type 0
Placed bs a = (answer_of bs (reply_of a) ≡ a) × Inside bs (reply_of a)

module _ (bs : List ℕ) where
  shown_placed : length bs ≡ after_cells bs + 12 + 4 * clock_count bs → Placed bs (shown_at bs)
  shown_placed size =
      let cells = length_fields_at bs (cell_count bs) 5 in
      let clocks = length_fields_at bs (clock_count bs) (after_cells bs + 12) in
      let place : 17 + 4 * length (fields_at bs 5 (cell_count bs)) ≡ after_cells bs + 12 = omega (arith, cells) in (
        (λ j. shown (fields_at bs 5 (cells j)) (field_at bs (after_cells bs)) (field_at bs (after_cells bs + 4)) (fields_at bs (place j) (clocks j))),
        (omega (arith, cells), omega (arith, cells, clocks)),
      )

  list_placed : length bs ≡ 5 + 12 * field_at bs 1 → Placed bs (listed (moves_at bs 5 (field_at bs 1)))
  list_placed size =
      let moves = length_moves_at bs (field_at bs 1) 5 in
      (ap (λ n. listed (moves_at bs 5 n)) moves, omega (arith, moves))

-- what has to be shown of each way of reading
abbrev Read : List ℕ → Answer → Option Answer → Type 0
Read bs a o = Some a ≡ o → Placed bs a

module _ (bs : List ℕ) (a : Answer) where
  placed_whole : (n : ℕ) (x : Answer) → (length bs ≡ n → Placed bs x) → Read bs a (whole bs n x)
  placed_whole n x here e =
      let w = whole_some bs n x a (sym e) in
      subst (Placed bs) w.1 (here w.0)

  of_either : (b : Bool) (x y : Option Answer) → Read bs a x → Read bs a y → Read bs a (cond b x y)
  of_either b x y here after = cond_both b x y (Read bs a) (λ e. here) (λ e. after)

  of_none : Read bs a None
  of_none e = absurd (cc (e))

pub placed : (bs : List ℕ) (a : Answer) → Some a ≡ parse_answer bs → Placed bs a
unfolding parse_answer
placed bs a =
    of_either bs a _ _ _ (placed_whole bs a 9 (refused (record { number = field_at bs 1; place = field_at bs 5 })) (λ e. (refl, tt)))
    (of_either bs a _ _ _ (placed_whole bs a 5 (number (field_at bs 1)) (λ e. (refl, tt)))
    (of_either bs a _ _ _ (placed_whole bs a (after_cells bs + 12 + 4 * clock_count bs) (shown_at bs) (shown_placed bs))
    (of_either bs a _ _ _ (placed_whole bs a (5 + 12 * field_at bs 1) (listed (moves_at bs 5 (field_at bs 1))) (list_placed bs))
    (of_either bs a _ _ _ (placed_whole bs a 5 (forced (field_at bs 1)) (λ e. (refl, tt))) (of_none bs a)))))

-- the parts that it was read as have its places
module _ (bs : List ℕ) where
  pub shown_read :
      (cells : List (List ℕ)) (t e : ℕ) (clocks : List (List ℕ)) → Some (shown (numbers_in cells) t e (numbers_in clocks)) ≡ parse_answer bs
      → (Some (shown (fields_at bs 5 (length cells)) t e (fields_at bs (17 + 4 * length cells) (length clocks))) ≡ parse_answer bs)
      × (5 + 4 * length cells ≤ length bs) × (17 + 4 * length cells + 4 * length clocks ≤ length bs)
  shown_read cells t e clocks is =
      let there = placed bs (shown (numbers_in cells) t e (numbers_in clocks)) is in
      let n : length (numbers_in cells) ≡ length cells = length-map cells _ in
      let k : length (numbers_in clocks) ≡ length clocks = length-map clocks _ in (
        (λ j. Some (shown (fields_at bs 5 (sym n j)) t e (fields_at bs (17 + 4 * sym n j) (sym k j)))) ∙ ap Some there.0 ∙ is,
        omega (arith, there.1, n),
        omega (arith, there.1, n, k),
      )

  pub list_read :
      (moves : List (List ℕ)) → Some (listed (moves_in moves)) ≡ parse_answer bs
      → (Some (listed (moves_at bs 5 (length moves))) ≡ parse_answer bs) × (5 + 12 * length moves ≤ length bs)
  list_read moves is =
      let there = placed bs (listed (moves_in moves)) is in
      let n : length (moves_in moves) ≡ length moves = length-map moves _ in
      (ap (λ k. Some (listed (moves_at bs 5 k))) (sym n) ∙ ap Some there.0 ∙ is, omega (arith, there.1, n))
