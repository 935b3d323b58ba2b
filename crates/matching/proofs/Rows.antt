-- Rows of cells of degree two. In order: runs, which are cells of two partners one after the other, with their pairs
-- and the cells outside that they pair with; a run that does not come back to where it starts has no cell twice; the
-- row that is read by walking is a run, a run is what is read there, and n is fuel enough; two rows that share a cell.
use mathlib.Core.Path.{◌≡◌, refl, sym, ap, ap₂, subst, ◌∙◌}
use mathlib.Core.Logic.{◌⊎◌, inl, inr, ◌≢◌, ⊎_map}
use mathlib.Core.Bool.{Bool, true, false, cond}
use mathlib.Core.List.{List, [], ◌∷◌}
use Prim.Native.Nat.{ℕ, zero, suc, ◌≤◌, ◌<◌}
use native.Mathlib.Omega.{arith}
use lib.Dec.{eqb}
use lib.ListN.{length}
use borrow.Author.Tests.{eq-eqb, ne_eqb}
use Rattle.matching.specs.Lists.{mem, distinct}
use Rattle.matching.specs.Pairs.{Pair, Points, Each}
use Rattle.matching.specs.Graph.{Graph, partners, degree}
use Rattle.matching.specs.Best.{walk}
use Rattle.matching.specs.Shapes.{IsRow, first, last}
use Rattle.matching.specs.Find.{ReadRow, onward, row}
use Rattle.matching.proofs.Tests.{Test, pass, fail, is_test, eq_test, passes, fails}
use Rattle.matching.proofs.Members.{no_mem, mem_on, mem_head, mem_cases, mem_more, mem_one, mem_not, mem_apart}
use Rattle.matching.proofs.Members.{clash, distinct_cons}
use Rattle.matching.proofs.Sums.{In, in_head, in_turned}
use Rattle.matching.proofs.Upto.{distinct_length}
use Rattle.matching.proofs.Put.{pair_below, pair_apart}
use Rattle.matching.proofs.Partners.{Between, between_turned, between_only, two_between, partners_two}
use Rattle.matching.proofs.Partners.{partner_of}

-- The cells from p to v, each of which has two partners: the one before it and the one after it.
abbrev pub Run : ℕ → Points → ℕ → List ℕ → ℕ → Type 0
Run n w p [] v = Unit {0}
Run n w p (c ∷ cs) v = Between n w p c (first v cs) × Run n w c cs v

-- The cell c is the first of them and e is p, or c is the last and e is v.
abbrev pub AtEnd : ℕ → List ℕ → ℕ → ℕ → ℕ → Type 0
AtEnd p cs v c e = ((p ≡ e) × (first v cs ≡ c)) ⊎ ((v ≡ e) × (last p cs ≡ c))

-- A row read from `from` at the cell `at`.
pub record Read (n : ℕ) (w : Points) (stop from at : ℕ) (r : ReadRow) : Type 0 where
  pub starts : first r.1 r.0 ≡ at
  pub run : Run n w from r.0 r.1
  pub off : mem stop r.0 ≡ false

-- A row ends where it began, or at a cell not of degree two.
abbrev pub Ends : ℕ → Points → ℕ → ℕ → Type 0
Ends n w stop v = (v ≡ stop) ⊎ (degree n w v ≢ 2)

in_first : (c : ℕ) (cs : List ℕ) (v : ℕ) → In (walk c cs v) c (first v cs)
in_first c [] v = in_head c v []
in_first c (d ∷ ds) v = in_head c d (walk d ds v)

-- the first cell of a walk
pub first_live : (w : Points) (c : ℕ) (cs : List ℕ) (v : ℕ) → Each (λ a b. 0 < w a b) (walk c cs v)
    → 0 < w c (first v cs)
first_live w c [] v p = p.0
first_live w c (d ∷ ds) v p = p.0

pub first_apart : (c : ℕ) (cs : List ℕ) (v : ℕ) → mem c cs ≡ false → (c ≢ v) ⊎ (0 < length cs) → c ≢ first v cs
first_apart c [] v off (inl d) e = d e
first_apart c [] v off (inr l) e = omega arith
first_apart c (x ∷ xs) v off d e = (mem_not c x xs off).0 (sym e)

module _ {n : ℕ} {w : Points} (g : Graph n w) where
  -- ---- runs

  pub run_live : (p : ℕ) (cs : List ℕ) (v : ℕ) → 0 < length cs → Run n w p cs v → Each (λ a b. 0 < w a b) (walk p cs v)
  run_live p [] v l r = absurd (omega arith)
  run_live p (c ∷ []) v l r = (omega (arith, g.turned p c, r.0.back), (r.0.on, tt))
  run_live p (c ∷ d ∷ ds) v l r =
      (omega (arith, g.turned p c, r.0.back), run_live c (d ∷ ds) v (omega arith) r.1)

  pub run_two : (p : ℕ) (cs : List ℕ) (v : ℕ) → Run n w p cs v → (c : ℕ) → mem c cs ≡ true → degree n w c ≡ 2
  run_two p [] v r c m = no_mem c m
  run_two p (d ∷ ds) v r c m = mem_more (λ x. degree n w x ≡ 2) d ds r.0.two (run_two d ds v r.1) c m

  pub run_closed : (p : ℕ) (cs : List ℕ) (v : ℕ) → Run n w p cs v
      → (a b : ℕ) → mem a cs ≡ true → 0 < w a b → In (walk p cs v) a b
  run_closed p [] v r a b m h = no_mem a m
  run_closed p (c ∷ cs) v r a b m h = go (mem_cases a c cs m) (run_closed c cs v r.1 a b)
    where
      es : List Pair
      es = (p, c) ∷ walk c cs v

      at : (p ≡ b) ⊎ (first v cs ≡ b) → In es c b
      at (inl e) = subst (In es c) e (in_turned es p c (in_head p c (walk c cs v)))
      at (inr e) = let k : In (walk c cs v) c b = rw (← e) (in_first c cs v) in omega arith

      go : (c ≡ a) ⊎ (mem a cs ≡ true) → (mem a cs ≡ true → 0 < w a b → In (walk c cs v) a b) → In es a b
      go (inl e) i = subst (λ x. In es x b) e (at (between_only g r.0 b (rw e h)))
      go (inr q) i = let k = i q h in omega arith

  -- a cell outside that a cell of the run pairs with is one of its ends
  pub run_outer : (p : ℕ) (cs : List ℕ) (v : ℕ) → Run n w p cs v
      → (c e : ℕ) → mem c cs ≡ true → mem e cs ≡ false → 0 < w c e
      → AtEnd p cs v c e
  run_outer p [] v r c e m off h = no_mem c m
  run_outer p (d ∷ ds) v r c e m off h =
      go (mem_cases c d ds m) (λ q. run_outer d ds v r.1 c e q apart.1 h)
    where
      apart : (d ≢ e) × (mem e ds ≡ false)
      apart = mem_not e d ds off

      head : (ds : List ℕ) → mem e ds ≡ false → d ≡ c → (p ≡ e) ⊎ (first v ds ≡ e) → AtEnd p (d ∷ ds) v c e
      head ds o q (inl k) = inl (k, q)
      head [] o q (inr k) = inr (k, q)
      head (x ∷ xs) o q (inr k) = absurd ((mem_not e x xs o).0 k)

      tail : AtEnd d ds v c e → AtEnd p (d ∷ ds) v c e
      tail (inl k) = absurd (apart.0 k.0)
      tail (inr k) = inr k

      go : (d ≡ c) ⊎ (mem c ds ≡ true) → (mem c ds ≡ true → AtEnd d ds v c e) → AtEnd p (d ∷ ds) v c e
      go (inl q) i = head ds apart.1 q (between_only g r.0 e (rw q h))
      go (inr q) i = tail (i q)

  -- ---- no cell twice

  -- the cell before a run is not in it
  run_fresh : (p : ℕ) (cs : List ℕ) (v : ℕ) → Run n w p cs v → distinct cs ≡ true → mem v cs ≡ false → mem p cs ≡ false
  run_fresh p [] v r d off = refl
  run_fresh p (c ∷ cs) v r d off =
      fails (is_test (mem p (c ∷ cs))) (λ m. go cs r (distinct_cons c cs d).0 (mem_cases p c cs m))
    where
      go : (cs : List ℕ) → Run n w p (c ∷ cs) v → mem c cs ≡ false → (c ≡ p) ⊎ (mem p cs ≡ true) → ⊥
      go cs r k (inl e) = pair_apart g c p r.0.back e
      go [] r k (inr m) = no_mem p m
      go (x ∷ xs) r k (inr m) = deep (mem_cases p x xs m)
        where
          end : AtEnd x xs v p c → ⊥
          end (inl e) = (mem_not c x xs k).0 e.0
          end (inr e) = (mem_not v c cs off).0 (sym e.0)

          deep : (x ≡ p) ⊎ (mem p xs ≡ true) → ⊥
          deep (inl e) = r.0.apart (sym e)
          deep (inr q) =
              end (run_outer x xs v r.1.1 p c q (mem_not c x xs k).1 (omega (arith, r.0.back, g.turned c p)))

  -- the cells passed are read backwards, those ahead forwards
  ahead_fresh : (u v : ℕ) (passed cs : List ℕ) → Run n w (first v cs) passed u → Run n w (first u passed) cs v
      → distinct passed ≡ true → mem u passed ≡ false → mem u cs ≡ false
      → (distinct cs ≡ true) × ((c : ℕ) → mem c cs ≡ true → mem c passed ≡ false)
  ahead_fresh u v passed [] b r d o k = (refl, λ c m. no_mem c m)
  ahead_fresh u v passed (c ∷ cs) b r d o k =
      let new : mem c passed ≡ false = run_fresh c passed u b d o in
      let off = mem_not u c cs k in
      let behind : mem u (c ∷ passed) ≡ false = rw (ne_eqb c u off.0, o) in
      let i = ahead_fresh u v (c ∷ passed) cs (between_turned r.0, b) r.1 (rw (new, d)) behind off.1 in (
        rw (fails (is_test (mem c cs)) (λ m. clash (mem_head c c passed refl) (i.1 c m)), i.0),
        mem_more (λ x. mem x passed ≡ false) c cs new (λ x m. (mem_not x c passed (i.1 x m)).1),
      )

  pub run_distinct : (u : ℕ) (cs : List ℕ) (v : ℕ) → Run n w u cs v → mem u cs ≡ false → distinct cs ≡ true
  run_distinct u cs v r off = (ahead_fresh u v [] cs tt r refl refl off).0

  -- ---- the row that is read by walking

  -- of the two partners, the one to go on to
  pub onward_between : (from at a b : ℕ) → partners n w at ≡ a ∷ b ∷ [] → 0 < w at from
      → Between n w from at (cond (eqb a from) b a)
  onward_between from at a b e h = go (eq_test a from) (between_only g two from h)
    where
      two : Between n w a at b
      two = two_between g at a b e

      go : {t : Bool} → Test (a ≡ from) (a ≢ from) t → (a ≡ from) ⊎ (b ≡ from) → Between n w from at (cond t b a)
      go (pass q) k = rw (← q) two
      go (fail d) (inl k) = absurd (d k)
      go (fail d) (inr k) = rw (← k) (between_turned two)

  pub row_read : (k stop from at : ℕ) → 0 < w from at → Read n w stop from at (row k (partners n w) stop from at)
  row_read zero stop from at h = record { starts = refl; run = tt; off = refl }
  row_read (suc k) stop from at h = go (eq_test at stop) (partners n w at) refl (row_read k stop at)
    where
      ends : Read n w stop from at ([], at)
      ends = record { starts = refl; run = tt; off = refl }

      go : {t : Bool} → Test (at ≡ stop) (at ≢ stop) t → (ps : List ℕ) → partners n w at ≡ ps
          → ((next : ℕ) → 0 < w at next → Read n w stop at next (row k (partners n w) stop at next))
          → Read n w stop from at (onward t ps from at (λ next. row k (partners n w) stop at next))
      go (pass q) ps e i = ends
      go (fail d) [] e i = ends
      go (fail d) (a ∷ []) e i = ends
      go (fail d) (a ∷ b ∷ []) e i =
          let two = onward_between from at a b e (omega (arith, g.turned from at)) in
          let r = i (cond (eqb a from) b a) two.on in
          record { starts = refl; run = (rw r.starts two, r.run); off = rw (ne_eqb at stop d) r.off }
      go (fail d) (a ∷ b ∷ c ∷ ps) e i = ends

  row_ends : (k stop from v : ℕ) → Ends n w stop v → row k (partners n w) stop from v ≡ ([], v)
  row_ends zero stop from v h = refl
  row_ends (suc k) stop from v h = go (eq_test v stop) (partners n w v) refl h
    where
      go : {t : Bool} → Test (v ≡ stop) (v ≢ stop) t → (ps : List ℕ) → partners n w v ≡ ps → Ends n w stop v
          → onward t ps from v (λ next. row k (partners n w) stop v next) ≡ ([], v)
      go (pass q) ps e h = refl
      go (fail d) [] e h = refl
      go (fail d) (a ∷ []) e h = refl
      go (fail d) (a ∷ b ∷ []) e (inl q) = absurd (d q)
      go (fail d) (a ∷ b ∷ []) e (inr q) = absurd (q (ap length e))
      go (fail d) (a ∷ b ∷ c ∷ ps) e h = refl

  run_row : (k stop p : ℕ) (cs : List ℕ) (v : ℕ) → Run n w p cs v → mem stop cs ≡ false → Ends n w stop v
      → length cs ≤ k → row k (partners n w) stop p (first v cs) ≡ (cs, v)
  run_row k stop p [] v r off end l = row_ends k stop p v end
  run_row zero stop p (c ∷ cs) v r off end l = absurd (omega arith)
  run_row (suc k) stop p (c ∷ cs) v r off end l =
      go (partners_two g r.0) (run_row k stop c cs v r.1 apart.1 end (omega arith))
    where
      apart : (c ≢ stop) × (mem stop cs ≡ false)
      apart = mem_not stop c cs off

      go : (partners n w c ≡ p ∷ first v cs ∷ []) ⊎ (partners n w c ≡ first v cs ∷ p ∷ [])
          → row k (partners n w) stop c (first v cs) ≡ (cs, v) → row (suc k) (partners n w) stop p c ≡ (c ∷ cs, v)
      go (inl e) i = rw (ne_eqb c stop apart.0, e, eq-eqb p p refl, i)
      go (inr e) i = rw (ne_eqb c stop apart.0, e, ne_eqb (first v cs) p (λ q. r.0.apart (sym q)), i)

  -- ---- rows in the description's words

  pub row_is : (u f : ℕ) (r : ReadRow) → Read n w u u f r → 1 < length r.0 → mem r.1 r.0 ≡ false
      → IsRow n w u r.0 r.1
  row_is u f r i more off = record {
    live = run_live u r.0 r.1 (omega arith) i.run;
    two = run_two u r.0 r.1 i.run;
    apart = run_distinct u r.0 r.1 i.run i.off;
    first_off = i.off;
    last_off = off;
    more = more;
  }

  row_run : (u : ℕ) (cs : List ℕ) (v : ℕ) → Each (λ a b. 0 < w a b) (walk u cs v)
      → ((c : ℕ) → mem c cs ≡ true → degree n w c ≡ 2)
      → distinct cs ≡ true → mem u cs ≡ false → mem v cs ≡ false → (u ≢ v) ⊎ (1 < length cs) → Run n w u cs v
  row_run u [] v live two d o off end = tt
  row_run u (c ∷ cs) v live two d o off end =
      let i = distinct_cons c cs d in
      let j = mem_not v c cs off in (
        record {
          two = two c (mem_head c c cs refl);
          back = omega (arith, g.turned u c, live.0);
          on = first_live w c cs v live.1;
          apart = first_apart u cs v (mem_not u c cs o).1 (⊎_map (λ k. k) (λ l. omega arith) end);
        },
        row_run c cs v live.1 (λ x m. two x (mem_on x c cs m)) i.1 i.0 j.1 (inl j.0),
      )

  -- a cell of degree two is one of the n cells
  pub two_below : (c : ℕ) → degree n w c ≡ 2 → c < n
  two_below c two = go (partners n w c) refl
    where
      go : (ps : List ℕ) → partners n w c ≡ ps → c < n
      go [] e = absurd (omega (arith, ap length e))
      go (x ∷ xs) e = (pair_below g c x (partner_of g c x (rw e (mem_head x x xs refl)))).0

  module _ {u : ℕ} {inner : List ℕ} {v : ℕ} (r : IsRow n w u inner v) where
    pub is_run : Run n w u inner v
    is_run = row_run u inner v r.live r.two r.apart r.first_off r.last_off (inr r.more)

    -- the pair that leaves u, and the first inner cell
    pub way_out : 0 < w u (first v inner)
    way_out = first_live w u inner v r.live

    pub first_in : mem (first v inner) inner ≡ true
    first_in = go inner r.more
      where
        go : (cs : List ℕ) → 1 < length cs → mem (first v cs) cs ≡ true
        go [] l = absurd (omega arith)
        go (c ∷ cs) l = mem_head c c cs refl

    pub inner_below : (c : ℕ) → mem c inner ≡ true → c < n
    inner_below c m = two_below c (r.two c m)

    -- n is fuel enough
    pub row_of : Ends n w u v → row n (partners n w) u u (first v inner) ≡ (inner, v)
    row_of end = run_row n u u inner v is_run r.first_off end (distinct_length n inner r.apart inner_below)

  -- ---- two rows that share a cell

  -- what one cell of the run has, and each cell hands on to its partners in the run, all of them have
  pub spread : (P : ℕ → Type 0) (p : ℕ) (cs : List ℕ) (v : ℕ) → Run n w p cs v
      → ((a b : ℕ) → mem b cs ≡ true → 0 < w a b → P a → P b)
      → (z : ℕ) → mem z cs ≡ true → P z → (x : ℕ) → mem x cs ≡ true → P x
  spread P p [] v r s z m k x q = no_mem x q
  spread P p (c ∷ []) v r s z m k x q = subst P (sym (mem_one z c m) ∙ mem_one x c q) k
  spread P p (c ∷ d ∷ ds) v r s z m k x q =
      let i = go (mem_cases z c (d ∷ ds) m) (spread P c (d ∷ ds) v r.1 (λ a b l. s a b (mem_on b c (d ∷ ds) l))) in
      mem_more P c (d ∷ ds) i.0 i.1 x q
    where
      Rest : Type 0
      Rest = (x : ℕ) → mem x (d ∷ ds) ≡ true → P x

      go : (c ≡ z) ⊎ (mem z (d ∷ ds) ≡ true) → ((z : ℕ) → mem z (d ∷ ds) ≡ true → P z → Rest) → P c × Rest
      go (inl e) i =
          let here : P c = subst P (sym e) k in
          (here, i d (mem_head d d ds refl) (s c d (mem_on d c (d ∷ ds) (mem_head d d ds refl)) r.0.on here))
      go (inr l) i =
          let rest = i z l k in
          (s d c (mem_head c c (d ∷ ds) refl) r.1.0.back (rest d (mem_head d d ds refl)), rest)

  -- the first pair of the one row is an end of the other, unless u is inside the other
  pub rows_meet : {u v u' v' : ℕ} {inner inner' : List ℕ} → IsRow n w u inner v → IsRow n w u' inner' v'
      → (z : ℕ) → mem z inner ≡ true → mem z inner' ≡ true
      → mem u' inner ≡ false → mem v' inner ≡ false → mem u inner' ≡ false
      → AtEnd u' inner' v' (first v inner) u
  rows_meet {u} {v} {u'} {v'} {inner} {inner'} r r' z h h' uo vo off =
      run_outer u' inner' v' (is_run r') (first v inner) u
      (spread (λ c. mem c inner' ≡ true) u inner v (is_run r) inside z h h' (first v inner) (first_in r))
      off (omega (arith, way_out r, g.turned u (first v inner)))
    where
      inside : (a b : ℕ) → mem b inner ≡ true → 0 < w a b → mem a inner' ≡ true → mem b inner' ≡ true
      inside a b m l k = passes (is_test (mem b inner')) (λ o. ends (run_outer u' inner' v' (is_run r') a b k o l))
        where
          ends : AtEnd u' inner' v' a b → ⊥
          ends (inl e) = mem_apart b u' inner m uo (sym e.0)
          ends (inr e) = mem_apart b v' inner m vo (sym e.0)

  -- rows that leave one cell by one pair are one row
  pub rows_same : {u v u' v' : ℕ} {inner inner' : List ℕ} → IsRow n w u inner v → Ends n w u v → IsRow n w u' inner' v'
      → Ends n w u' v' → u ≡ u' → first v inner ≡ first v' inner' → (inner ≡ inner') × (v ≡ v')
  rows_same {u} {v} {u'} {v'} {inner} {inner'} r e r' e' p q =
      let x : ◌≡◌ {A = ReadRow} (inner, v) (inner', v') =
      sym (row_of r e) ∙ ap₂ (λ c f. row n (partners n w) c c f) p q ∙ row_of r' e'
      in (ap (λ (t : ReadRow). t.0) x, ap (λ (t : ReadRow). t.1) x)
