-- `heavy` tries the places above the lowest one as its partner, each with the word of the set without the two.
-- `word_of` has the word, or asks `heavy`.
use Rattle.std.proofs.Common.{arith, ◌∙◌}
use Rattle.sets.proofs.Places.{fewer_first, next_within, fewer_next}
use Rattle.sets.proofs.Heaviest.{best_none, word_light}
use Rattle.sets.proofs.Tried.{tried_first, tried_all, tried_fits, tried_out, tried_light, tried_better, tried_worse}
use Rattle.sets.proofs.Tried.{earlier_first, earlier_next, earlier_better}
use Rattle.sets.proofs.Known.{kept_none, kept_all, kept_more, ready_small, ready_kept}
use Rattle.sets.proofs.+heavy_word_of.Goals as goal
use Rattle.sets.proofs.+heavy_word_of.Goals.{heavy-then-rest-q-eq1+then-x-gt0+then-points-y}
use Rattle.sets.proofs.+heavy_word_of.Goals.{heavy-then-rest-q-eq1+then-x-gt0+else-points-y}
use Rattle.sets.proofs.+heavy_word_of.Goals.{heavy-then-rest-q-eq1+else-x-gt0}
use Rattle.sets.proofs.+heavy_word_of.Goals.{heavy-else-rest-q-eq1}

pub heavy-returns-then-s-eq0 : goal.heavy-returns-then-s-eq0
heavy-returns-then-s-eq0 t c =
    (best_none _ _ c.if-s-eq0.true c.of.ensures.known c.of.ensures.points, kept_none c.requires.known)

pub heavy-lowest-c-requires : goal.heavy-lowest-c-requires
heavy-lowest-c-requires t c = (omega arith, ready_small c.requires)

pub heavy-word_of-requires : goal.heavy-word_of-requires
heavy-word_of-requires t c = (
  omega (arith, fewer_first _ _ c.single.ensures c.lowest-c.ensures),
  ready_kept c.requires (kept_none c.requires.known) (omega arith),
)

pub heavy-of-best-requires : goal.heavy-of-best-requires
heavy-of-best-requires t c = (omega (arith, word_light c.requires.light c.word_of.ensures.0), tt)

pub heavy-loop-q-init : goal.heavy-loop-q-init
heavy-loop-q-init t c = let h = c.word_of.ensures in
    let b = c.of-best.ensures in record {
      ready = ready_kept c.requires h.1 (omega arith);
      kept = h.1;
      tried =
          tried_first c.single.ensures c.lowest-c.ensures h.0 b.known (b.points ∙ c.points.ensures) b.partner;
      earlier = earlier_first _ _ b.partner;
    }

pub heavy-overflow_sub-rest-then-x-gt0 : goal.heavy-overflow_sub-rest-then-x-gt0
heavy-overflow_sub-rest-then-x-gt0 t c = next_within _ _ c.single-then-x-gt0.ensures c.if-rest-q-eq1.true

pub heavy-word_of-requires-then-x-gt0 : goal.heavy-word_of-requires-then-x-gt0
heavy-word_of-requires-then-x-gt0 t c = let i = c.loop-q.invariant in (
  omega (
    arith,
    fewer_next _ _ c.single-then-x-gt0.ensures (omega arith) c.if-rest-q-eq1.true,
    fewer_first _ _ c.single.ensures c.lowest-c.ensures,
  ),
  ready_kept i.ready (kept_none i.ready.known) (omega arith),
)

pub heavy-overflow_add-y : goal.heavy-overflow_add-y
heavy-overflow_add-y t c = let i = c.loop-q.invariant in
    omega (arith, tried_fits i.tried (omega arith) i.ready.light c.word_of-then-x-gt0.ensures.0)

pub heavy-of-word-requires : goal.heavy-of-word-requires
heavy-of-word-requires t c = let i = c.loop-q.invariant in
    (omega (arith, tried_fits i.tried (omega arith) i.ready.light c.word_of-then-x-gt0.ensures.0), omega arith)

pub heavy-loop-q-preserved : goal.heavy-loop-q-preserved
heavy-loop-q-preserved t c = let i = c.loop-q.invariant in
    elim c.if-rest-q-eq1.branch [
      | heavy-then-rest-q-eq1+then-x-gt0+then-points-y w ↦
          let h = w.word_of-then-x-gt0.ensures in
          let b = w.of-word.ensures in
          rw (w.w1-is, w.best-is) record {
            ready = ready_kept i.ready h.1 (omega arith);
            kept = kept_all i.kept h.1;
            tried =
                tried_better i.tried (omega arith) w.if-rest-q-eq1.true w.single-then-x-gt0.ensures h.0 w.if-x-gt0.true
                (omega arith) b.known (omega (arith, b.points)) b.partner;
            earlier = earlier_better _ _ b.partner;
          }
      | heavy-then-rest-q-eq1+then-x-gt0+else-points-y w ↦
          let h = w.word_of-then-x-gt0.ensures in
          rw (w.w1-is, w.best-is) record {
            ready = ready_kept i.ready h.1 (omega arith);
            kept = kept_all i.kept h.1;
            tried =
                tried_worse i.tried (omega arith) w.if-rest-q-eq1.true w.single-then-x-gt0.ensures h.0 w.if-x-gt0.true
                (omega arith);
            earlier = earlier_next _ _ i.earlier;
          }
      | heavy-then-rest-q-eq1+else-x-gt0 w ↦
          rw (w.w1-is, w.best-is) record {
            ready = i.ready;
            kept = i.kept;
            tried = tried_light i.tried (omega arith) w.if-rest-q-eq1.true w.if-x-gt0.false;
            earlier = earlier_next _ _ i.earlier;
          }
      | heavy-else-rest-q-eq1 w ↦
          rw (w.w1-is, w.best-is) record {
            ready = i.ready;
            kept = i.kept;
            tried = tried_out i.tried (omega arith) w.if-rest-q-eq1.false;
            earlier = earlier_next _ _ i.earlier;
          }
    ]

pub heavy-bounds-w1-s : goal.heavy-bounds-w1-s
heavy-bounds-w1-s t c = omega (arith, ready_small c.loop-q.invariant.ready)

pub heavy-returns : goal.heavy-returns
heavy-returns t c = let i = c.loop-q.invariant in
    let b = tried_all i.tried i.ready.within c.loop-q-test.false in
    (b, kept_more _ _ (omega (arith, ready_small i.ready)) b i.kept)

pub word_of-bounds-w1-s : goal.word_of-bounds-w1-s
word_of-bounds-w1-s t c = omega (arith, ready_small c.requires)
