-- Pairs of digits, read byte by byte: after what was read there is always a way to go on, and where reading stops there is none with the next byte.
use Rattle.std.proofs.Common.{◌≡◌, ℕ, ◌+◌, ◌*◌, ◌≤◌, true, false, ◌⊎◌, List, [], ◌∷◌, ◌++◌, take, Some, None, Ok, Err, Option, Result, sym, refl, ap, ◌∙◌, subst, inl, inr, ⊎_elim, arith}
use Rattle.std.proofs.lemmas.Bool.{and_parts, and_from, both_ways, cond_both}
use Rattle.text.specs.Grammar.{blank, digit, all}
use Rattle.text.specs.Raw.{hex_value, Pairs, end, pair}
use Rattle.text.specs.RawReader.{step_of, by_digit, after, pushed, pairs_at}
use Rattle.text.specs.declared.raw.Awaits.{Awaits}
use Rattle.text.specs.declared.raw.Awaits.TheVariants.{Gap, Digit, Second}
use Rattle.text.specs.declared.raw.Step.TheVariants.{Blank, First, Pair}
use Rattle.text.proofs.Splits.{starts, none_alike}
use Rattle.text.proofs.Pieces.{blank_not_digit}
use Rattle.text.proofs.Hex.{not_both}
use Rattle.text.proofs.Forms.{Stuck, Good}

-- small facts of lists and digits
no_value : (b h : ℕ) → hex_value b ≡ None → hex_value b ≡ Some h → ⊥
no_value b h e d = clash (sym e ∙ d)
  where
    clash : None ≡ Some h → ⊥
    clash q = let z : ◌≡◌ {A = ℕ} 0 1 = cc in omega arith

same_value : (h k : ℕ) → Some h ≡ Some k → h ≡ k
same_value h k q = cc

same_first : (b y : ℕ) (xs rest : List ℕ) → b ∷ xs ≡ y ∷ rest → b ≡ y
same_first b y xs rest q = cc

same_rest : (b y : ℕ) (xs rest : List ℕ) → b ∷ xs ≡ y ∷ rest → xs ≡ rest
same_rest b y xs rest q = cc

no_bytes : (y : ℕ) (rest : List ℕ) → [] ≡ y ∷ rest → ⊥
no_bytes y rest q = let z : ◌≡◌ {A = ℕ} 0 1 = cc in omega arith

-- the second digit of a pair whose first has the value h, and what follows
pub record Half (h : ℕ) (bs xs : List ℕ) : Type 0 where
  pub y : ℕ
  pub low : ℕ
  pub cs : List ℕ
  pub rest : List ℕ
  pub cut : xs ≡ y ∷ rest
  pub digit : hex_value y ≡ Some low
  pub says : bs ≡ (h * 16 + low) ∷ cs
  pub then : Pairs 1 cs rest

-- how bytes may be written from here on
abbrev pub Said : Awaits → List ℕ → List ℕ → Type 0
Said Gap bs xs = Pairs 1 bs xs
Said Digit bs xs = Pairs 0 bs xs
Said (Second h) bs xs = Half h bs xs

-- there is always some way to go on
pub some_said : (a : Awaits) → (bs : List ℕ) × (xs : List ℕ) × Said a bs xs
unfolding hex_value all
some_said Gap = ([], [], end [] refl)
some_said Digit = ([], [], end [] refl)
some_said (Second h) = (
  (h * 16 + 0) ∷ [],
  48 ∷ [],
  record { y = 48; low = 0; cs = []; rest = []; cut = refl; digit = refl; says = refl; then = end [] refl },
)

-- white space or a first digit in front
blank_in : {bs xs : List ℕ} (least b : ℕ) → least ≤ 1 → blank b ≡ true → Pairs 0 bs xs → Pairs least bs (b ∷ xs)
unfolding all
blank_in least b l e (end xs h) = end (b ∷ xs) (and_from (blank b) (all blank xs) e h)
blank_in least b l e (pair gap x y high low rest enough white hx hy more) =
    pair (b ∷ gap) x y high low rest (omega arith) (and_from (blank b) (all blank gap) e white) hx hy more

first_in : (b h : ℕ) (bs xs : List ℕ) → hex_value b ≡ Some h → Half h bs xs → Pairs 0 bs (b ∷ xs)
unfolding all
first_in b h bs xs e k =
    subst (λ ys. Pairs 0 bs (b ∷ ys)) (sym k.cut) (subst (λ cs. Pairs 0 cs (b ∷ k.y ∷ k.rest)) (sym k.says)
    (pair [] b k.y h k.low k.rest (omega arith) refl e k.digit k.then))

-- what the first byte can be
begins :
    {least : ℕ} {bs zs : List ℕ} → Pairs least bs zs → (b : ℕ) (xs : List ℕ) → zs ≡ b ∷ xs →
    ((blank b ≡ true) × Pairs 0 bs xs) ⊎ ((least ≤ 0) × (h : ℕ) × (hex_value b ≡ Some h) × Half h bs xs)
unfolding all
begins (end zs white) b xs e =
    let t = and_parts (blank b) (all blank xs) (subst (λ ys. all blank ys ≡ true) e white) in
    inl (t.0, end xs t.1)
begins (pair {bs = cs} [] x y high low rest enough white hx hy more) b xs e =
    let same : x ≡ b = cc in
    let left : xs ≡ y ∷ rest = cc in
    inr (enough, high, ap hex_value (sym same) ∙ hx, record { y = y; low = low; cs = cs; rest = rest; cut = left; digit = hy; says = refl; then = more })
begins (pair {bs = cs} (g ∷ gap) x y high low rest enough white hx hy more) b xs e =
    let same : g ≡ b = cc in
    let left : gap ++ (x ∷ y ∷ rest) ≡ xs = cc in
    let t = and_parts (blank g) (all blank gap) white in
    inl (ap blank (sym same) ∙ t.0, subst (λ ys. Pairs 0 ((high * 16 + low) ∷ cs) ys) left (pair gap x y high low rest (omega arith) t.1 hx hy more))

blank_out : (least b : ℕ) (bs xs : List ℕ) → blank b ≡ true → Pairs least bs (b ∷ xs) → Pairs 0 bs xs
blank_out least b bs xs e p = ⊎_elim (λ t. t.1) (λ t. absurd (not_both b t.1 e t.2)) (begins p b xs refl)

first_out : (least b h : ℕ) (bs xs : List ℕ) → hex_value b ≡ Some h → Pairs least bs (b ∷ xs) → Half h bs xs
first_out least b h bs xs e p =
    ⊎_elim (λ t. absurd (not_both b h t.0 e)) (λ t. subst (λ k. Half k bs xs) (same_value t.1 h (sym t.2 ∙ e)) t.3) (begins p b xs refl)

-- a byte more in front
step_good :
    (L M : List ℕ → List ℕ → Type 0) (b : ℕ) → ((cs xs : List ℕ) → M cs xs → L cs (b ∷ xs)) → ((cs xs : List ℕ) → L cs (b ∷ xs) → M cs xs) →
    (bs : List ℕ) (i : ℕ) (r : Result (List ℕ) ℕ) → Good M bs (i + 1) r → Good L (b ∷ bs) i r
step_good L M b to from bs i (Ok cs) h = to cs bs h
step_good L M b to from bs i (Err n) h = record {
  front = b ∷ h.front;
  left = h.left;
  cut = ap (λ xs. b ∷ xs) h.cut;
  place = h.place ∙ omega arith;
  live = (h.live.0, h.live.1, to h.live.0 (h.front ++ h.live.1) h.live.2);
  dead = λ cs xs a t. h.dead cs xs a (from cs (h.front ++ xs) t);
}

-- a byte that was said in front of others
abbrev Then : ℕ → List ℕ → List ℕ → Type 0
Then b bs xs = (cs : List ℕ) × (bs ≡ b ∷ cs) × Pairs 1 cs xs

pushed_good : (b : ℕ) (bs : List ℕ) (i : ℕ) (r : Result (List ℕ) ℕ) → Good (Pairs 1) bs i r → Good (Then b) bs i (pushed b r)
pushed_good b bs i (Ok cs) h = (cs, refl, h)
pushed_good b bs i (Err n) h = record {
  front = h.front;
  left = h.left;
  cut = h.cut;
  place = h.place;
  live = (b ∷ h.live.0, h.live.1, (h.live.0, refl, h.live.2));
  dead = λ cs xs a t. h.dead t.0 xs a t.2;
}

second_in : (h b low : ℕ) (bs xs : List ℕ) → hex_value b ≡ Some low → Then (h * 16 + low) bs xs → Half h bs (b ∷ xs)
second_in h b low bs xs e t = record { y = b; low = low; cs = t.0; rest = xs; cut = refl; digit = e; says = t.1; then = t.2 }

second_out : (h b low : ℕ) (bs xs : List ℕ) → hex_value b ≡ Some low → Half h bs (b ∷ xs) → Then (h * 16 + low) bs xs
second_out h b low bs xs e k =
    let value : k.low ≡ low = same_value k.low low (sym k.digit ∙ ap hex_value (sym (same_first b k.y xs k.rest k.cut)) ∙ e) in
    (k.cs, k.says ∙ ap (λ n. (h * 16 + n) ∷ k.cs) value, subst (λ ys. Pairs 1 k.cs ys) (sym (same_rest b k.y xs k.rest k.cut)) k.then)

-- nothing goes on with the next byte
stop :
    (a : Awaits) (bs : List ℕ) (i : ℕ) → ((cs xs : List ℕ) → take 1 xs ≡ take 1 bs → Said a cs xs → ⊥) → Stuck (Said a) bs i i
stop a bs i dead = record { front = []; left = bs; cut = refl; place = omega arith; live = some_said a; dead = dead }

-- what begins alike with a byte begins with that byte
first_alike : (b : ℕ) (bs xs : List ℕ) → take 1 xs ≡ take 1 (b ∷ bs) → (ys : List ℕ) × (xs ≡ b ∷ ys)
first_alike b bs [] e = absurd (let z : ◌≡◌ {A = ℕ} 0 1 = cc in omega arith)
first_alike b bs (x ∷ xs) e = (xs, (cc))

stop_at :
    (a : Awaits) (b : ℕ) (bs : List ℕ) (i : ℕ) → ((cs xs : List ℕ) → Said a cs (b ∷ xs) → ⊥) → Stuck (Said a) (b ∷ bs) i i
stop_at a b bs i dead =
    stop a (b ∷ bs) i (λ cs xs e t.
    let q = first_alike b bs xs e in
    dead cs q.0 (subst (λ ys. Said a cs ys) q.1 t))

-- one byte, where what is left is read rightly
module _ (b : ℕ) (bs : List ℕ) (i : ℕ) (good : (a : Awaits) → Good (Said a) bs (i + 1) (pairs_at a bs (i + 1))) where
  abbrev left : Awaits → Result (List ℕ) ℕ
  left a = pairs_at a bs (i + 1)

  blank_good : (least : ℕ) → least ≤ 1 → blank b ≡ true → Good (Pairs least) (b ∷ bs) i (left Digit)
  blank_good least l e =
      step_good (Pairs least) (Pairs 0) b (λ cs xs. blank_in least b l e) (λ cs xs. blank_out least b cs xs e) bs i (left Digit) (good Digit)

  gap_good : Good (Said Gap) (b ∷ bs) i (after (step_of Gap b) left i)
  unfolding step_of
  gap_good =
      cond_both (blank b) (Some Blank) None (λ s. Good (Said Gap) (b ∷ bs) i (after s left i)) (λ e. blank_good 1 (omega arith) e)
      (λ e. stop_at Gap b bs i (λ cs xs t. ⊎_elim (λ p. both_ways (blank b) e p.0) (λ p. omega (arith, p.0)) (begins t b xs refl)))

  digit_good : Good (Said Digit) (b ∷ bs) i (after (step_of Digit b) left i)
  unfolding step_of
  digit_good =
      cond_both (blank b) (Some Blank) (by_digit (hex_value b) First) (λ s. Good (Said Digit) (b ∷ bs) i (after s left i)) (λ e. blank_good 0 (omega arith) e)
      (λ e. by_value e (hex_value b) refl)
    where
      by_value : blank b ≡ false → (o : Option ℕ) → hex_value b ≡ o → Good (Said Digit) (b ∷ bs) i (after (by_digit o First) left i)
      by_value e (Some h) q =
          step_good (Pairs 0) (Half h) b (λ cs xs. first_in b h cs xs q) (λ cs xs. first_out 0 b h cs xs q) bs i (left (Second h)) (good (Second h))
      by_value e None q =
          stop_at Digit b bs i (λ cs xs t. ⊎_elim (λ p. both_ways (blank b) e p.0) (λ p. no_value b p.1 q p.2) (begins t b xs refl))

  second_good : (h : ℕ) → Good (Said (Second h)) (b ∷ bs) i (after (step_of (Second h) b) left i)
  unfolding step_of
  second_good h = by_value (hex_value b) refl
    where
      by_value : (o : Option ℕ) → hex_value b ≡ o → Good (Half h) (b ∷ bs) i (after (by_digit o (λ l. Pair (h * 16 + l))) left i)
      by_value (Some l) q =
          step_good (Half h) (Then (h * 16 + l)) b (λ cs xs. second_in h b l cs xs q) (λ cs xs. second_out h b l cs xs q) bs i
          (pushed (h * 16 + l) (left Gap)) (pushed_good (h * 16 + l) bs (i + 1) (left Gap) (good Gap))
      by_value None q =
          stop_at (Second h) b bs i (λ cs xs t. no_value b t.low q (ap hex_value (same_first b t.y xs t.rest t.cut) ∙ t.digit))

-- reading the pairs is right
pub pairs_good : (a : Awaits) (bs : List ℕ) (i : ℕ) → Good (Said a) bs i (pairs_at a bs i)
unfolding pairs_at all
pairs_good Gap [] i = end [] refl
pairs_good Digit [] i = end [] refl
pairs_good (Second h) [] i = stop (Second h) [] i (λ cs xs e t. no_bytes t.y t.rest (sym (none_alike xs e) ∙ t.cut))
pairs_good Gap (b ∷ bs) i = gap_good b bs i (λ a. pairs_good a bs (i + 1))
pairs_good Digit (b ∷ bs) i = digit_good b bs i (λ a. pairs_good a bs (i + 1))
pairs_good (Second h) (b ∷ bs) i = second_good b bs i (λ a. pairs_good a bs (i + 1)) h

-- bytes are written after white space, so nothing begins with a digit
pub pairs_stop : (bs xs : List ℕ) → Pairs 1 bs xs → starts digit xs ≡ false
pairs_stop bs [] p = refl
pairs_stop bs (x ∷ xs) p = ⊎_elim (λ t. blank_not_digit x t.0) (λ t. absurd (omega (arith, t.0))) (begins p x xs refl)

-- nothing written says nothing
pairs_none : {least : ℕ} {bs zs : List ℕ} → Pairs least bs zs → zs ≡ [] → bs ≡ []
pairs_none (end zs white) e = refl
pairs_none (pair [] x y high low rest enough white hx hy more) e = absurd (no_bytes x (y ∷ rest) (sym e))
pairs_none (pair (g ∷ gap) x y high low rest enough white hx hy more) e = absurd (no_bytes g (gap ++ (x ∷ y ∷ rest)) (sym e))

-- what is written says the same bytes in whatever way it is read
pub said_same : (a : Awaits) (xs bs cs : List ℕ) → Said a bs xs → Said a cs xs → bs ≡ cs
said_same Gap [] bs cs p q = pairs_none p refl ∙ sym (pairs_none q refl)
said_same Digit [] bs cs p q = pairs_none p refl ∙ sym (pairs_none q refl)
said_same (Second h) [] bs cs p q = absurd (no_bytes p.y p.rest p.cut)
said_same Gap (x ∷ xs) bs cs p q =
    ⊎_elim (λ t. said_same Digit xs bs cs t.1 (blank_out 1 x cs xs t.0 q)) (λ t. absurd (omega (arith, t.0))) (begins p x xs refl)
said_same Digit (x ∷ xs) bs cs p q =
    ⊎_elim (λ t. said_same Digit xs bs cs t.1 (blank_out 0 x cs xs t.0 q))
    (λ t. said_same (Second t.1) xs bs cs t.3 (first_out 0 x t.1 cs xs t.2 q)) (begins p x xs refl)
said_same (Second h) (x ∷ xs) bs cs p q =
    let t = second_out h x p.low bs xs (ap hex_value (same_first x p.y xs p.rest p.cut) ∙ p.digit) p in
    let u = second_out h x p.low cs xs (ap hex_value (same_first x p.y xs p.rest p.cut) ∙ p.digit) q in
    t.1 ∙ ap (λ ds. (h * 16 + p.low) ∷ ds) (said_same Gap xs t.0 u.0 t.2 u.2) ∙ sym u.1
