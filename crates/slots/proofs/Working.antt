-- What callers need of the working graph as a struct: the buffers stay the same over several changes (`buffers_on`);
-- words set one after the other (`words_on`). Assumes nothing.
use mathlib.Core.Path.{◌∙◌}
use Prim.Native.Nat.{ℕ}
use Rattle.slots.specs.Working.{SameBuffers, WordSet, WordsSet}
use Rattle.slots.specs.declared.graph.WorkingGraph.{WorkingGraph}

pub buffers_on : {g g' g'' : WorkingGraph} → SameBuffers g g' → SameBuffers g' g'' → SameBuffers g g''
buffers_on h k = record { first = k.first ∙ h.first; second = k.second ∙ h.second }

-- one word more
pub words_on : {g g' g'' : WorkingGraph} {place x : ℕ} → WordsSet g g' → WordSet place x g' g'' → WordsSet g g''
words_on h k =
    record { slots = k.slots ∙ h.slots; first = k.first ∙ h.first; buffers = buffers_on h.buffers k.buffers }
