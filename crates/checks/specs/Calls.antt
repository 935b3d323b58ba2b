-- A call on a list. Its refusals are, in checking order: 1, those of the list (2 to 6), its own, and 12 over its
-- outputs. 'Accepted, a call answers the length of each file it wrote'; what an output then holds is `written` of crate
-- cellfile.
use Rattle.std.specs.Prelude.{ℕ, Bool, List, [], ◌∷◌, ◌++◌, map, length, Result, Ok, Err}
use Rattle.matching.specs.Pairs.{Points}
use Rattle.cellfile.specs.Files.{pairs_of}
use Rattle.cellfile.specs.Answers.{Answer, answer}
use Rattle.checks.specs.Refusals.{Row, first, too_few_words, lists, list_rows, bad_pairing, no_pairing, crowded}
use Rattle.checks.specs.Refusals.{short_output}
use Rattle.checks.specs.declared.Refusal.{Refusal}
use Rattle.checks.specs.declared.Refusal.TheVariants.{FewWords, NoList, TooLarge, WrongLength, StrayEntry, Unordered}
use Rattle.checks.specs.declared.Refusal.TheVariants.{BadSlip, Disallowed, BadPairing, NoPairing, Crowded, ShortOutput}
use Rattle.checks.specs.declared.Refusal.TheVariants.{BadRaw}

-- The number of each refusal, and of the one that a result holds; 0 of none.
abbrev pub number : Refusal → ℕ
number FewWords = 1
number NoList = 2
number TooLarge = 3
number WrongLength = 4
number StrayEntry = 5
number Unordered = 6
number BadSlip = 7
number Disallowed = 8
number BadPairing = 9
number NoPairing = 10
number Crowded = 11
number ShortOutput = 12
number BadRaw = 13

abbrev pub refusal_in : {A : Type 0} → Result A Refusal → ℕ
refusal_in (Ok x) = 0
refusal_in (Err refusal) = number refusal

-- The number and the values of each case of a call's answer, by the values of what it answers where it refuses nothing:
-- one number, or two.
abbrev pub answered : {A : Type 0} → (A → List ℕ) → Result A Refusal → Answer
answered values (Ok x) = (0, values x)
answered values (Err refusal) = (number refusal, [])

abbrev pub one : ℕ → List ℕ
one k = k ∷ []

abbrev pub two : ℕ × ℕ → List ℕ
two k = k.0 ∷ k.1 ∷ []

-- Refusals 1 to 6: `few` says whether a work buffer has too few words.
abbrev pub call_rows : Bool → List ℕ → List Row
call_rows few list = (1, few) ∷ list_rows lists list

-- Rows that calls have of their own: 9 and 10 of a pairing for a graph of n cells, and 11 of the largest group
-- of the cells left.
abbrev pub form_row : ℕ → List ℕ → Row
form_row n pairing = (9, bad_pairing n pairing)

abbrev pub hold_row : Points → List ℕ → Row
hold_row there pairing = (10, no_pairing there (pairs_of pairing))

abbrev pub crowded_row : ℕ → Row
crowded_row largest = (11, crowded largest)

abbrev pub room_row : List (ℕ × List ℕ) → Row
room_row outs = (12, short_output outs)

-- The answer of a call that writes files, for its refusals before 12, and the room and the file of each output.
abbrev pub filing : List Row → List (ℕ × List ℕ) → Answer
filing rows outs = answer (first (rows ++ room_row outs ∷ [])) (map (λ (o : ℕ × List ℕ). length o.1) outs)

-- That of a call on a list, for the lengths of the work buffers lent, the list, and the call's own refusals.
abbrev pub answering : (lent list : List ℕ) → List Row → List (ℕ × List ℕ) → Answer
answering lent list own outs = filing (call_rows (too_few_words lent) list ++ own) outs
