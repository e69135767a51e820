-- Lines that say bytes, read whole; and that no line is of two sorts.
use Rattle.std.proofs.Common.{◌≡◌, ℕ, ◌<◌, ◌≤◌, max, ◌⊎◌, List, ◌++◌, length, take, drop, Ok, Err, codes, Result, sym, refl, ap, ◌∙◌, subst, inl, inr, ⊎_elim, arith}
use Rattle.std.proofs.lemmas.List.{append_cancel_left}
use Rattle.std.proofs.lemmas.Bool.{both_ways, cases_lt}
use Rattle.rules.specs.declared.Call.{Call}
use Rattle.text.specs.Grammar.{blank, FrontOf}
use Rattle.text.specs.Raw.{Pairs, IsRaw, IsEither, RawReads, Kept}
use Rattle.text.specs.Reader.{and_then, gap_at, letters_at, word_at}
use Rattle.text.specs.RawReader.{pairs_from, raw_of, Filled}
use Rattle.text.specs.Theorems.{OneBytesALine, NoLineIsBoth, LongestFrontOfBoth}
use Rattle.text.specs.declared.raw.Raw.{Raw}
use Rattle.text.specs.declared.raw.Awaits.TheVariants.{Gap}
use Rattle.text.proofs.Splits.{split_unique}
use Rattle.text.proofs.Pieces.{the_word}
use Rattle.text.proofs.Forms.{Begins, Good, then_good, word_alone}
use Rattle.text.proofs.Lines.{good_like, good_reads}
use Rattle.text.proofs.Calls.{says_bytes, begun}
use Rattle.text.proofs.Pairs.{some_said, pairs_good, pairs_stop, said_same}

abbrev the_bytes : List ℕ
the_bytes = codes "bytes"

-- the word and what follows it, as the reader of words has it
abbrev Worded : List ℕ → List ℕ → Type 0
Worded bs xs = Begins (the_word the_bytes) 0 (λ v rest. Pairs 1 bs rest) xs

to_raw : (bs xs : List ℕ) → Worded bs xs → IsRaw bs xs
to_raw bs xs b = (b.gap, b.rest, b.cut ∙ ap (λ ds. b.gap ++ (ds ++ b.rest)) b.spelled.1, b.white, b.then)

from_raw : (bs xs : List ℕ) → IsRaw bs xs → Worded bs xs
from_raw bs xs r = record {
  value = 0;
  gap = r.0;
  ds = the_bytes;
  rest = r.1;
  cut = r.2;
  enough = omega arith;
  white = r.3;
  spelled = (refl, refl);
  then = r.4;
}

raw_good : (line : List ℕ) → Good IsRaw line 0 (raw_of line)
unfolding raw_of
raw_good line =
    good_like Worded IsRaw to_raw from_raw line 0 (raw_of line)
    (subst (λ r. Good Worded line 0 r) (word_alone (gap_at 0 line 0) (λ j. letters_at the_bytes (drop j line) j) (pairs_from line))
    (then_good (the_word the_bytes) (λ xs. refl) (λ v bs rest. Pairs 1 bs rest) (λ v. pairs_stop) (λ v. some_said Gap) 0 (omega arith) line
    (λ v j. pairs_from line j) (λ v j l. pairs_good Gap (drop j line) j) 0 (omega arith)))

-- reading a line answers what it says
pub raw_reads : (line : List ℕ) → RawReads line (raw_of line)
raw_reads line = good_reads IsRaw line (raw_of line) (raw_good line)

-- the two clauses of the code's contract, where the code keeps what is said
pub record Read (line : List ℕ) (r : Result Raw ℕ) : Type 0 where
  pub value : Kept (raw_of line) r
  pub means : (said : Result (List ℕ) ℕ) × RawReads line said × Kept said r

kept_read : (line : List ℕ) (r : Result Raw ℕ) → Kept (raw_of line) r → Read line r
kept_read line r h = record { value = h; means = (raw_of line, raw_reads line, h) }

-- the word is not there
pub word_missing : (line : List ℕ) (n : ℕ) (r : Result Raw ℕ) → Err n ≡ word_at the_bytes 0 line 0 → r ≡ Err n → Read line r
unfolding raw_of
word_missing line n r e q =
    kept_read line r (subst (λ p. Kept (raw_of line) p) (sym q) (subst (λ w. Kept (and_then w (pairs_from line)) (Err n)) e refl))

-- the word is there, and what follows it is not right, or is
after_word : (line : List ℕ) (j : ℕ) (r : Result Raw ℕ) → Ok j ≡ word_at the_bytes 0 line 0 → Kept (pairs_from line j) r → Read line r
unfolding raw_of
after_word line j r e h = kept_read line r (subst (λ w. Kept (and_then w (pairs_from line)) r) e h)

pub pairs_wrong :
    (line : List ℕ) (j n : ℕ) (kept : List ℕ) (r : Result Raw ℕ) → Ok j ≡ word_at the_bytes 0 line 0 → Filled (pairs_from line j) 22 kept (Err n) → r ≡ Err n →
    Read line r
pairs_wrong line j n kept r e h q = after_word line j r e (subst (λ p. Kept (pairs_from line j) p) (sym q) (by_answer (pairs_from line j) h))
  where
    by_answer : (s : Result (List ℕ) ℕ) → Filled s 22 kept (Err n) → Kept s (Err n)
    by_answer (Ok bs) g = absurd g
    by_answer (Err m) g = g

pub pairs_right :
    (line : List ℕ) (j n : ℕ) (kept : List ℕ) → Ok j ≡ word_at the_bytes 0 line 0 → Filled (pairs_from line j) 22 kept (Ok n) →
    Read line (Ok (record { bytes = kept; count = n }))
pairs_right line j n kept e h = after_word line j (Ok (record { bytes = kept; count = n })) e (by_answer (pairs_from line j) h)
  where
    by_answer : (s : Result (List ℕ) ℕ) → Filled s 22 kept (Ok n) → Kept s (Ok (record { bytes = kept; count = n }))
    by_answer (Ok bs) g = g
    by_answer (Err m) g = absurd g

-- no line says two lists of bytes
pub one_bytes : OneBytesALine
one_bytes bs cs line h k =
    let same = split_unique blank h.0 k.0 (the_bytes ++ h.1) (the_bytes ++ k.1) h.3 k.3 refl refl (sym h.2 ∙ k.2) in
    let rest : h.1 ≡ k.1 = append_cancel_left the_bytes h.1 k.1 same.1 in
    said_same Gap k.1 bs cs (subst (λ xs. Pairs 1 bs xs) rest h.4) k.4

-- no call's line says bytes: they differ in the first two letters
pub not_both_sorts : NoLineIsBoth
unfolding says_bytes
not_both_sorts c bs line h k =
    let b = begun c line h in
    let same = split_unique blank b.0 k.0 b.1 (the_bytes ++ k.1) b.3 k.3 b.4 refl (sym b.2 ∙ k.2) in
    both_ways (says_bytes b.1) b.6 (ap says_bytes same.1)

-- of two sorts of lines, the longer front
pub longer_of_both : LongestFrontOfBoth
longer_of_both line m n h k = (
  λ x. by_sort x,
  omega arith,
  ⊎_elim
      (λ l. let last : n ≡ max m n = omega arith in subst (λ p. FrontOf IsEither (take p line)) last (inl k.2.0, k.2.1, k.2.2))
      (λ l. let last : m ≡ max m n = omega arith in subst (λ p. FrontOf IsEither (take p line)) last (inr h.2.0, h.2.1, h.2.2)) (cases_lt m n),
  λ p l u f. by_front p l u f.0 f.1 f.2,
)
  where
    by_sort : (x : Call ⊎ List ℕ) → IsEither x line → ⊥
    by_sort (inl c) t = k.0 c t
    by_sort (inr bs) t = h.0 bs t

    by_front : (p : ℕ) → max m n < p → p ≤ length line → (x : Call ⊎ List ℕ) (rest : List ℕ) → IsEither x (take p line ++ rest) → ⊥
    by_front p l u (inl c) rest t = k.3 p (omega arith) u (c, rest, t)
    by_front p l u (inr bs) rest t = h.3 p (omega arith) u (bs, rest, t)
