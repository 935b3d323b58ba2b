-- `ask` by what its three calls did. In order: a file read again from its output, and buffers cleared twice; what `ask`
-- is given and what each call did with it (`Given`, `ReplayDid`, `LiftDid`, `WeighDid`); where replay and lift answer,
-- the lifted file fits its output (`lift_room`), and `ask` answers what weigh does (`weighs_next`); where weigh answers
-- too, demand 3 holds of what the calls answered and wrote (`keeps_all`). Assumes nothing.
use mathlib.Core.Path.{◌≡◌, sym, ap, ap₂, subst, ◌∙◌}
use mathlib.Core.List.{List, [], ◌∷◌, ◌++◌}
use Prim.Native.Nat.{ℕ, ◌≤◌}
use native.Mathlib.Omega.{arith}
use lib.ListN.{length, take, drop, length-replicate}
use lib.Seq.{take-append_seam}
use Rattle.matching.specs.Listed.{Entry, points}
use Rattle.cellfile.specs.Files.{onto, pairs_of}
use Rattle.cellfile.proofs.Lists.{view_all}
use Rattle.buffers.specs.Buffers.{lent, zeros, Cleared}
use Rattle.cellfile.specs.Answers.{Answer, written}
use Rattle.weighing.specs.Weigh.{weighing}
use Rattle.reduction.specs.Calls.{replay_short, replaying}
use Rattle.lifting.specs.Calls.{lifting, lift_file, lift_origins}
use Rattle.claims.specs.Demand.{Allowed, Liftable}
use Rattle.claims.specs.Claims.{Wrote}
use Rattle.claims.specs.Asking.{and_then, asking, Told}
use Rattle.claims.proofs.Demand.{demand_three}
use Rattle.claims.proofs.Origins.{origin_claim}
use Rattle.claims.proofs.Answers.{zero_tells}
use Rattle.checks.proofs.Layers.{answer_accepted}

-- A file is read again from the output that it was written to.
file_again : (file out : List ℕ) (k : ℕ) → k ≡ length file → take k (onto file out) ≡ file
unfolding onto
file_again file out k e = ap (λ n. take n (onto file out)) e ∙ take-append_seam file (drop (length file) out)

-- Two buffers that a call clears: they are as long as they were, and what two calls clear one after the other is clear.
abbrev Clears : (a b a' b' : List ℕ) → Type 0
Clears a b a' b' = Cleared a a' × Cleared b b'

lent_again : (a b : List ℕ) {a' b' : List ℕ} → Clears a b a' b' → lent a' b' ≡ lent a b
lent_again a b c =
    ap₂ (λ (x y : ℕ). x ∷ y ∷ [])
    (ap length c.0 ∙ length-replicate (length a) 0) (ap length c.1 ∙ length-replicate (length b) 0)

clear_again : (a b : List ℕ) {a' b' a'' b'' : List ℕ} → Clears a b a' b' → Clears a' b' a'' b'' → Clears a b a'' b''
clear_again a b c d = (
  d.0 ∙ ap zeros (ap length c.0 ∙ length-replicate (length a) 0),
  d.1 ∙ ap zeros (ap length c.1 ∙ length-replicate (length b) 0),
)

-- ---- what `ask` is given, and what its calls did

pub record Given : Type 0 where
  pub list : List ℕ
  pub slip : List ℕ
  pub pairing : List ℕ
  pub a : List ℕ
  pub b : List ℕ
  pub short : List ℕ
  pub lifted : List ℕ
  pub origins : List ℕ

abbrev pub given : (list slip pairing a b short lifted origins : List ℕ) → Given
given list slip pairing a b short lifted origins = record {
  list = list;
  slip = slip;
  pairing = pairing;
  a = a;
  b = b;
  short = short;
  lifted = lifted;
  origins = origins;
}

module _ (g : Given) where
  abbrev words : List ℕ
  words = lent g.a g.b

  abbrev short_file_is : List ℕ
  short_file_is = replay_short g.list g.slip

  abbrev lift_file_is : List ℕ
  lift_file_is = lift_file g.list g.slip g.pairing

  abbrev origin_file_is : List ℕ
  origin_file_is = lift_origins g.list g.slip g.pairing

  -- Replay answered x; then lift, with the buffers that replay left; then weigh of the first j bytes that lift wrote.
  abbrev pub ReplayDid : (x : Answer) (short' a' b' : List ℕ) → Type 0
  ReplayDid x short' a' b' =
      (x ≡ replaying g.list g.slip (lent g.a g.b) (length g.short))
      × ((short' ≡ written x.0 (replay_short g.list g.slip) g.short)
      × (Cleared g.a a' × Cleared g.b b'))

  abbrev pub LiftDid : (a' b' : List ℕ) (x : Answer) (lifted' origins' a'' b'' : List ℕ) → Type 0
  LiftDid a' b' x lifted' origins' a'' b'' =
      (x ≡ lifting g.list g.slip g.pairing (lent a' b') (length g.lifted) (length g.origins))
      × (((lifted' ≡ written x.0 (lift_file g.list g.slip g.pairing) g.lifted)
      × (origins' ≡ written x.0 (lift_origins g.list g.slip g.pairing) g.origins))
      × (Cleared a' a'' × Cleared b' b''))

  abbrev pub WeighDid : (lifted' a'' b'' : List ℕ) (j : ℕ) (x : Answer) (a''' b''' : List ℕ) → Type 0
  WeighDid lifted' a'' b'' j x a''' b''' =
      (x ≡ weighing g.list (take j lifted') (lent a'' b'')) × (Cleared a'' a''' × Cleared b'' b''')

  abbrev replays : Answer
  replays = replaying g.list g.slip words (length g.short)

  abbrev lifts : Answer
  lifts = lifting g.list g.slip g.pairing words (length g.lifted) (length g.origins)

  abbrev ended : List ℕ → List ℕ → Answer → Answer
  ended i j x = and_then x (λ p. (0, i ++ j ++ p))

  abbrev onward : List ℕ → Answer → Answer
  onward i x = and_then x (λ j. ended i j (weighing g.list lift_file_is words))

  -- a replay that refuses nothing answers one length
  pub replay_one : {x : Answer} {i j : ℕ} {short' a' b' : List ℕ} → x ≡ (0, i ∷ j ∷ []) → ReplayDid x short' a' b' → ⊥
  replay_one {i = i} {j = j} e r = omega (arith, ap length (answer_accepted _ (i ∷ j ∷ []) _ (sym e ∙ r.0)).1)

  -- ---- replay answers i

  module _ {i : ℕ} {short' a' b' : List ℕ} (r : ReplayDid (0, i ∷ []) short' a' b') where
    -- lift is lent the buffers that replay cleared
    lifts_here : {x : Answer} {lifted' origins' a'' b'' : List ℕ} → LiftDid a' b' x lifted' origins' a'' b'' → lifts ≡ x
    lifts_here l =
        ap (λ (ws : List ℕ). lifting g.list g.slip g.pairing ws (length g.lifted) (length g.origins))
        (sym (lent_again g.a g.b r.1.1))
        ∙ sym l.0

    lift_next : asking g.list g.slip g.pairing words (length g.short) (length g.lifted)
        (length g.origins)
        ≡ onward (i ∷ []) lifts
    lift_next = ap (λ (x : Answer). and_then x (λ i. onward i lifts)) (sym r.0)

    -- ---- lift answers j and o

    module _ {j o : ℕ} {lifted' origins' a'' b'' : List ℕ} (l : LiftDid a' b' (0, j ∷ o ∷ []) lifted' origins' a'' b'')
      where
        lift_zero : Allowed g.list g.slip × Liftable g.list g.slip g.pairing
            × Wrote (lift_file g.list g.slip g.pairing) words (length g.lifted) j
            × Wrote (lift_origins g.list g.slip g.pairing) words (length g.origins) o
        lift_zero =
            zero_tells.lift g.list g.slip g.pairing words (length g.lifted) (length g.origins) j o
            (lifts_here l)

        pub lift_room : j ≤ length g.lifted
        lift_room = let w = lift_zero.2 in omega (arith, w.fits, w.value)

        lifted_again : take j lifted' ≡ lift_file_is
        lifted_again = ap (take j) l.1.0.0 ∙ file_again lift_file_is g.lifted j lift_zero.2.value

        origins_again : take o origins' ≡ origin_file_is
        origins_again = ap (take o) l.1.0.1 ∙ file_again origin_file_is g.origins o lift_zero.3.value

        abbrev clear : Clears g.a g.b a'' b''
        clear = clear_again g.a g.b r.1.1 l.1.1

        pub weighs_next : {x : Answer} {a''' b''' : List ℕ} → WeighDid lifted' a'' b'' j x a''' b'''
            → ended (i ∷ []) (j ∷ o ∷ []) x
            ≡ asking g.list g.slip g.pairing words (length g.short) (length g.lifted)
            (length g.origins)
        weighs_next v =
            ap (ended (i ∷ []) (j ∷ o ∷ [])) v.0
            ∙ ap₂ (λ (f ws : List ℕ). ended (i ∷ []) (j ∷ o ∷ []) (weighing g.list f ws)) lifted_again
            (lent_again g.a g.b clear)
            ∙ sym (lift_next ∙ ap (onward (i ∷ [])) (lifts_here l))

        -- ---- weigh answers p

        pub keeps_all : {p : ℕ} {a''' b''' : List ℕ} → WeighDid lifted' a'' b'' j (0, p ∷ []) a''' b'''
            → Told g.list g.slip g.pairing (take i short') (take j lifted') (take o origins') p
        keeps_all {p = p} v =
            subst (λ (f : List ℕ). Told g.list g.slip g.pairing f (take j lifted') (take o origins') p)
            (sym short_is)
            (subst (λ (f : List ℕ). Told g.list g.slip g.pairing short_file_is f (take o origins') p)
            (sym lifted_again)
            (subst (λ (f : List ℕ). Told g.list g.slip g.pairing short_file_is lift_file_is f p) (sym origins_again)
            kept))
          where
            short_is : take i short' ≡ short_file_is
            short_is =
                ap (take i) r.1.0
                ∙ file_again short_file_is g.short i
                (zero_tells.replay g.list g.slip words (length g.short) i (sym r.0)).1.value

            kept : Told g.list g.slip g.pairing short_file_is lift_file_is origin_file_is p
            kept =
                let h = lift_zero in
                let three = demand_three g.list g.slip h.0 in
                let keeps = (three.2 g.pairing h.1).1 in
                record {
                  exactly =
                      (zero_tells.weigh g.list lift_file_is (lent a'' b'') p
                      (ap (λ (f : List ℕ). weighing g.list f (lent a'' b'')) (sym lifted_again) ∙ sym v.0)).3
                      ∙ ap (λ (es : List Entry). points es (pairs_of lift_file_is)) (sym (view_all g.list))
                      ∙ keeps.exact;
                  short_keeps = three.1;
                  lift_keeps = keeps;
                  steps = h.0.steps;
                  named = h.0.stand;
                  from = origin_claim g.list g.slip h.0 g.pairing h.1;
                }
