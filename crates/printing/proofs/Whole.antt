-- What printing the bytes of a game answers.
use Rattle.std.proofs.Common.{◌≡◌, ℕ, ◌*◌, ◌≤◌, true, false, cond, not, nat_eq, Bool, ◌&&◌, List, length, is_some, Some, None, Ok, Err, Option, Result, sym, refl, ap, ◌∙◌, arith}
use Rattle.std.proofs.lemmas.Bool.{true≢false}
use Rattle.rules.specs.declared.Refusal.{Refusal}
use Rattle.rules.specs.Rules.{Game}
use Rattle.rules.specs.Bounds.{all_below, good_game}
use Rattle.wire.specs.Games.{game_bytes, parse_game, size_of, checked_game, checked}
use Rattle.wire.proofs.GamesBack.{game_writes_back}
use Rattle.game_text.specs.Filling.{filled}
use Rattle.game_text.proofs.Answering.{one_game}
use Rattle.printing.specs.Games.{printed, printed_size, printed_into, ExactSize, PrintedReadsBack}
use Rattle.printing.specs.declared.writer.Writer.{Writer}
use Rattle.printing.specs.Puts.{Wrote}
use Rattle.printing.proofs.Putting.{filled_by, size_told}
use Rattle.printing.proofs.Sizes.{fits}
use Rattle.printing.proofs.Texts.{is_text}

-- whether a check tells anything else than that bytes are no game
abbrev pub game_told : {A : Type 0} → Result A Refusal → Bool
game_told (Ok a) = true
game_told (Err r) = not (nat_eq r.number 3 && nat_eq r.place 0)

-- just of bytes that are no game it tells so
pub game_there : (bs : List ℕ) → game_told (checked bs) ≡ is_some (parse_game bs)
unfolding checked
game_there bs = there (parse_game bs)
  where
    there : (o : Option Game) → game_told (checked_game o) ≡ is_some o
    there None = refl
    there (Some g) =
        elim (good_game g) as (λ b. game_told (cond b (Ok (size_of g)) (Err (record { number = 3; place = 1 }))) ≡ true) [ true ↦ refl | false ↦ refl ]

pub game_printed :
    (o : Option Game) {a b : Writer} → a.at ≡ 0 → true ≡ is_some o → length a.out.now ≤ 18446744073709551615 → ((g : Game) → o ≡ Some g → Wrote a (printed g) b) →
    (Some b.at ≡ printed_size o) × (b.out.now ≡ printed_into o a.out.now) × (b.out.ghost_name ≡ a.out.ghost_name)
game_printed None start h l put = absurd (true≢false h)
game_printed (Some g) start h l put =
    (ap Some (size_told (printed g) start (put g refl)), filled_by (printed g) start (put g refl) l, (put g refl).same_memory)

pub no_game : (o : Option Game) (old : List ℕ) → false ≡ is_some o → (None ≡ printed_size o) × (old ≡ printed_into o old)
no_game None old h = (refl, refl)
no_game (Some g) old h = absurd (true≢false (sym h))

pub exact : (bs : List ℕ) (r : Option ℕ) → all_below 256 bs ≡ true → r ≡ printed_size (parse_game bs) → ExactSize bs r
exact bs r all e g h small =
    let back = game_writes_back bs g all h in
    let size : length (printed g) ≤ 10 * length bs = rw back.0 (fits g back.1) in
    e ∙ ap printed_size h ∙ ap Some (omega arith)

-- the text is that of the game, so that no other is read, and no fault found
pub reads_back : PrintedReadsBack
reads_back g fit old new (Ok n) m =
    let same : m.0 ≡ g = one_game m.0 g (printed g) m.1 (is_text g fit) in
    (ap Ok (m.2 ∙ ap (λ h. length (game_bytes h)) same), m.3 ∙ ap (λ h. filled (game_bytes h) old) same)
reads_back g fit old new (Err f) m = absurd (m.0.0 g (is_text g fit))
