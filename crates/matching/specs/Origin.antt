-- Where each pair of a lifted pairing came from.
use Rattle.std.specs.Prelude.{◌≡◌, Bool, true, false, cond, List, [], ◌∷◌, ◌++◌, ℕ, suc, length}
use Rattle.matching.specs.Pairs.{Pair, Points, held}
use Rattle.matching.specs.Steps.{Rule, Step, name, apply, added}
use Rattle.matching.specs.Slip.{left, lift}

-- 'The origin is one of two cases: from the short list, or from a step with its rule.'
pub data Origin : Type 0 where
  from_short : Origin
  from_step : (number : ℕ) (rule : Rule) → Origin

-- The number of its step: 'a pair that stood in the short pairing and was never replaced has step 0'.
abbrev pub number_in : Origin → ℕ
number_in from_short = 0
number_in (from_step number rule) = number

-- An origin for each two cells.
abbrev pub Origins : Type 0
Origins = ℕ → ℕ → Origin

abbrev pub all_short : Origins
all_short a b = from_short

-- A step is undone: the pairs that it puts in, 'also in place of itself', are from it, the others from where they were.
abbrev pub stamped : ℕ → Step → List Pair → Origins → Origins
stamped number s new o a b = cond (held a b new) (from_step number (name s).0) (o a b)

-- The way back through steps of which the first has the number k; o is where the pairs of the short pairing m are from.
-- 'The way back undoes the last step first', so the first step stamps last.
abbrev pub origins_by : Origins → Points → ℕ → List Step → List Pair → Origins
origins_by o w k [] m = o
origins_by o w k (s ∷ ss) m = stamped k s (added w s (lift (apply w s) ss m)) (origins_by o (apply w s) (suc k) ss m)

-- 'Step counts from 1.'
abbrev pub origins : Points → List Step → List Pair → Origins
origins w ss m = origins_by all_short w 1 ss m

-- The same in the description's words. Whether the undoing of the step s puts the pair a, b in, with the steps before
-- it and after it in the slip.
module _ (w : Points) (m : List Pair) (a b : ℕ) where
  abbrev pub puts : List Step → Step → List Step → Bool
  puts before s after = held a b (added (left w before) s (lift (apply (left w before) s) after m))

  -- 'The step whose undoing last put the pair in': those undone later are before it in the slip.
  pub record LastPut (ss : List Step) (number : ℕ) (rule : Rule) : Type 0 where
    pub before : List Step
    pub step : Step
    pub after : List Step
    pub slip : ss ≡ before ++ step ∷ after
    pub counts : number ≡ suc (length before)
    pub by : rule ≡ (name step).0
    pub put : puts before step after ≡ true
    pub last : (first : List Step) (s : Step) (rest : List Step) → before ≡ first ++ s ∷ rest
        → puts first s (rest ++ step ∷ after) ≡ false

  -- 'A pair that stood in the short pairing and was never replaced': it stood all the way, and no undoing put it in.
  pub record Stood (ss : List Step) : Type 0 where
    pub stood : (before after : List Step) → ss ≡ before ++ after → held a b (lift (left w before) after m) ≡ true
    pub never : (before : List Step) (s : Step) (after : List Step) → ss ≡ before ++ s ∷ after
        → puts before s after ≡ false

  abbrev pub CameFrom : List Step → Origin → Type 0
  CameFrom ss from_short = Stood ss
  CameFrom ss (from_step number rule) = LastPut ss number rule
