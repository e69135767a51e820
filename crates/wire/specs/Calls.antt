-- Calls as bytes: a byte for the kind, and then the fields, four bytes each. Assumes nothing: these are definitions.
use Rattle.std.specs.Prelude.{◌≡◌, ℕ, suc, ◌+◌, ◌*◌, ◌<◌, ◌≤◌, min, true, cond, List, [], ◌∷◌, ◌++◌, length, take, Ok, Err, Result, ◌==◌, ◌≢◌, nat_lt, slice_index}
use Rattle.rules.specs.declared.Call.{Call}
use Rattle.rules.specs.declared.Call.TheVariants.{Sit, Play, Ticks, See, May, Back, CanForce}
use Rattle.rules.specs.Calls.{call_number}
use Rattle.rules.specs.Bounds.{all_below, readable}
use Rattle.wire.specs.Fields.{fields_bytes, fields_at}

unfoldable pub call_fields : Call → List ℕ
call_fields (Sit n) = n ∷ []
call_fields (Play t m v) = t ∷ m ∷ v.rule ∷ v.first ∷ v.second ∷ []
call_fields (Ticks n) = n ∷ []
call_fields (See t) = t ∷ []
call_fields (May t) = t ∷ []
call_fields (Back t n) = t ∷ n ∷ []
call_fields (CanForce t m k d) = t ∷ m ∷ k ∷ d ∷ []

unfoldable pub call_bytes : Call → List ℕ
call_bytes c = call_number c ∷ fields_bytes (call_fields c)

-- how many fields a call of kind k has
abbrev pub field_count : ℕ → ℕ
field_count k = cond (k == 1) 5 (cond (k == 5) 2 (cond (k == 6) 4 1))

-- the call of kind k with the fields ns
abbrev pub call_of : ℕ → List ℕ → Call
call_of k ns =
    cond (k == 0) (Sit (slice_index ns 0)) (cond (k == 1)
    (Play (slice_index ns 0) (slice_index ns 1) (record { rule = slice_index ns 2; first = slice_index ns 3; second = slice_index ns 4 })) (cond (k == 2) (Ticks (slice_index ns 0))
    (cond (k == 3) (See (slice_index ns 0)) (cond (k == 4) (May (slice_index ns 0)) (cond (k == 5) (Back (slice_index ns 0) (slice_index ns 1))
    (CanForce (slice_index ns 0) (slice_index ns 1) (slice_index ns 2) (slice_index ns 3)))))))

-- the call that bytes are, or the place where they cease to be one: 0 if there is no byte or no such kind,
-- their end if they are too short, and the first byte too many if they are too long
unfoldable pub parse_call : List ℕ → Result Call ℕ
parse_call [] = Err 0
parse_call (k ∷ bs) =
    cond (nat_lt 6 k) (Err 0) (cond (suc (length bs) == 1 + 4 * field_count k) (Ok (call_of k (fields_at (k ∷ bs) 1 (field_count k))))
    (Err (min (suc (length bs)) (1 + 4 * field_count k))))

-- a call whose fields fit comes back from its bytes
abbrev pub CallReadsBack : Type 0
CallReadsBack = (c : Call) → readable c ≡ true → parse_call (call_bytes c) ≡ Ok c

-- bytes that are read as a call are the bytes of that call, and its fields fit
abbrev pub CallWritesBack : Type 0
CallWritesBack = (bs : List ℕ) (c : Call) → all_below 256 bs ≡ true → parse_call bs ≡ Ok c → (bs ≡ call_bytes c) × (readable c ≡ true)

-- bytes that are refused at place n are no call; as far as n they are the beginning of one, and no further
abbrev pub CallPlaceIsLongestFront : Type 0
CallPlaceIsLongestFront =
    (bs : List ℕ) (n : ℕ) → all_below 256 bs ≡ true → parse_call bs ≡ Err n
    → (n ≤ length bs) × ((c : Call) × (rest : List ℕ) × (readable c ≡ true) × (call_bytes c ≡ take n bs ++ rest))
    × ((m : ℕ) → n < m → m ≤ length bs → (c : Call) (rest : List ℕ) → call_bytes c ≢ take m bs ++ rest) × ((c : Call) → call_bytes c ≢ bs)
