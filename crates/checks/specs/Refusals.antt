-- 'Refusals in checking order. Each is checked where the call has that input; the first that holds is the answer.'
-- One row for each number. A call's refusal is the first of its rows; the rows are the same for every call.
use Rattle.std.specs.Prelude.{ℕ, suc, Bool, true, not, cond, ◌&&◌, ◌||◌, List, [], ◌∷◌, map, ltb, leb, eqb, length}
use Rattle.std.specs.Prelude.{get_or}
use Rattle.matching.specs.Lists.{any, mem}
use Rattle.matching.specs.Pairs.{Pair, Points}
use Rattle.matching.specs.Pairing.{is_pairing}
use Rattle.matching.specs.Listed.{Entry}
use Rattle.cellfile.specs.Files.{kind_of, cells_of, count_of, zeros_of, Layout, slip, pairing, file_length}
use Rattle.cellfile.specs.Files.{read_entries}
use Rattle.cellfile.specs.Files.{raw_list, list_layout, entries_all, steps_of, entry_key}

-- A row: the refusal's number, and whether its condition holds.
abbrev pub Row : Type 0
Row = ℕ × Bool

-- The number of the first row that holds, 0 where none does.
abbrev pub first : List Row → ℕ
first [] = 0
first (r ∷ rs) = cond r.1 r.0 (first rs)

-- 1. 'A work buffer has fewer than 8,192 words.' Given the lengths of the buffers lent.
unfoldable pub too_few_words : List ℕ → Bool
too_few_words lent = any (λ (words : ℕ). ltb words 8192) lent

-- 2. 'The store list is shorter than 4 bytes, or its kind is not 1, or a header zero bit is set.' Given the kinds of
-- list that the call takes; `lists` are those that every call takes.
abbrev pub lists : List ℕ
lists = 1 ∷ []

unfoldable pub is_no_list : List ℕ → List ℕ → Bool
is_no_list kinds s = ltb (length s) 4 || (not (mem (kind_of s) kinds) || not (eqb (zeros_of s) 0))

-- 3. 'Its n is above 1,024 or its m above 4,096.'
unfoldable pub is_too_large : List ℕ → Bool
is_too_large s = ltb 1024 (cells_of s) || ltb 4096 (count_of s)

-- 4. 'Its length is not 4 + 5 × m.'
unfoldable pub wrong_length : List ℕ → Bool
wrong_length s = not (eqb (length s) (file_length (list_layout s) (cells_of s) (count_of s)))

-- 5. 'Some entry has a cell not below n, or a not below b.'
abbrev pub stray_pair : ℕ → ℕ → ℕ → Bool
stray_pair n a b = leb n a || (leb n b || leb b a)

unfoldable pub stray_entry : List ℕ → Bool
stray_entry s = any (λ (e : Entry). stray_pair (cells_of s) e.0 e.1) (entries_all s)

-- 6. 'The entries are not strictly ascending', by (a, b).
abbrev pub ascending_from : ℕ → List ℕ → Bool
ascending_from low [] = true
ascending_from low (k ∷ ks) = leb low k && ascending_from (suc k) ks

unfoldable pub unordered : List ℕ → Bool
unordered s = not (ascending_from 0 (map entry_key (entries_all s)))

abbrev pub list_rows : List ℕ → List ℕ → List Row
list_rows kinds s =
    (2, is_no_list kinds s)
    ∷ (3, is_too_large s)
    ∷ (4, wrong_length s)
    ∷ (5, stray_entry s)
    ∷ (6, unordered s)
    ∷ []

-- 7 and 9: 'shorter than 4 bytes, or of wrong kind, n, length or zero bits', by the file's layout.
unfoldable pub misheaded : Layout → ℕ → List ℕ → Bool
misheaded l n s =
    ltb (length s) 4 || (not (eqb (kind_of s) l.kind) || (not (eqb (cells_of s) n)
    || (not (eqb (zeros_of s) 0) || not (eqb (length s) (file_length l (cells_of s) (count_of s))))))

-- 7. '.. or has a rule outside 1 to 3.' Given the first and the last rule that the call takes; `rules` are those of the
-- steps leaf, ring and chain.
abbrev pub rules : ℕ × ℕ
rules = (1, 3)

abbrev pub is_no_rule : ℕ × ℕ → ℕ → Bool
is_no_rule taken rule = ltb rule taken.0 || ltb taken.1 rule

unfoldable pub bad_slip : ℕ × ℕ → ℕ → List ℕ → Bool
bad_slip taken n s = misheaded slip n s || any (λ (t : ℕ × ℕ). is_no_rule taken t.0) (steps_of s)

-- 8. 'Some step of the slip is not allowed where it stands': `stand` tells whether the steps are.
abbrev pub disallowed : (List (ℕ × ℕ) → Bool) → List ℕ → Bool
disallowed stand s = not (stand (steps_of s))

-- 9. '.. or of wrong .. zero bits, cell numbers or order': a < b < n, strictly ascending by a.
abbrev pub bad_pair : ℕ → List ℕ → Bool
bad_pair n r = stray_pair n (get_or r 0 0) (get_or r 1 0) || not (eqb (get_or r 2 0) 0)

unfoldable pub bad_pairing : ℕ → List ℕ → Bool
bad_pairing n s =
    misheaded pairing n s || (any (bad_pair n) (read_entries pairing s)
    || not (ascending_from 0 (map (λ (r : List ℕ). get_or r 0 0) (read_entries pairing s))))

-- 10. 'The pairing holds a cell twice, or a pair that is not in the graph it is for': `there` counts the graph's pairs.
abbrev pub no_pairing : Points → List Pair → Bool
no_pairing there m = not (is_pairing there m)

-- 11. 'Some connected group of the remaining cells has more than 12': given how many cells the largest has.
abbrev pub crowded : ℕ → Bool
crowded largest = ltb 12 largest

-- 12. 'An output is shorter than its file.' Given the room of each output and its file.
unfoldable pub short_output : List (ℕ × List ℕ) → Bool
short_output outs = any (λ (o : ℕ × List ℕ). ltb o.0 (length o.1)) outs

-- 13, of a raw list, in place of 2 to 6: 'a wrong kind, zero bit, n, m or length, or an entry with one cell twice or a
-- cell not below n'.
abbrev pub loose_pair : ℕ → ℕ → ℕ → Bool
loose_pair n a b = eqb a b || (leb n a || leb n b)

unfoldable pub is_bad_raw : List ℕ → Bool
is_bad_raw s =
    is_no_list (raw_list.kind ∷ []) s || (is_too_large s || (wrong_length s
    || any (λ (e : Entry). loose_pair (cells_of s) e.0 e.1) (entries_all s)))
