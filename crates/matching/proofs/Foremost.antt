-- Solve's pairing is the one that the description names: it is heaviest (`solve_heaviest`), and of any other heaviest
-- pairing, at the lowest cell whose partner differs, solve's has no partner or the lower one (`solve_first`).
-- In order: pairings of a set of cells, and what solves the set; the lowest cell with each partner in turn, the
-- invariant being that what is had beats all pairings but those with a partner still to try (`Leads`); the laws.
-- Assumes nothing.
use mathlib.Core.Path.{◌≡◌, refl, sym, ap, ◌∙◌}
use mathlib.Core.Logic.{◌⊎◌, inl, inr, ◌≢◌}
use mathlib.Core.Bool.{Bool, true, false, not, cond, ◌&&◌}
use mathlib.Core.List.{List, [], ◌∷◌}
use Prim.Native.Nat.{ℕ, zero, suc, ◌+◌, ◌≤◌, ◌<◌}
use native.Mathlib.Omega.{arith}
use lib.Dec.{ltb}
use lib.ListN.{length}
use Rattle.matching.specs.Lists.{mem, All, Ascends}
use Rattle.matching.specs.Pairs.{Pair, Points, sum, hit, same, like, without}
use Rattle.matching.specs.Pairing.{seen, partner, First, Pairing, Heaviest}
use Rattle.matching.specs.Graph.{Graph}
use Rattle.matching.specs.Solve.{less, tries, solve}
use Rattle.matching.proofs.Tests.{Test, pass, fail, is_test, eq_test, lt_test, and_test, passes, fails}
use Rattle.matching.proofs.Members.{no_mem, mem_on, mem_head, mem_apart, mem_more, mem_not, mem_past}
use Rattle.matching.proofs.Alls.{all_mem, all_members}
use Rattle.matching.proofs.Sums.{sum_none, each_keep, hit_none, hit_some, once_cons, without_once, without_none}
use Rattle.matching.proofs.Sums.{like_hit}
use Rattle.matching.proofs.Solve.{less_gone, less_past, less_length, less_ascends}
use Rattle.matching.proofs.Partner.{seen_left, seen_turned, partner_none, partner_view, partner_of, held_sum}
use Rattle.matching.proofs.Partner.{held_free, held_points, first_more}

-- ---- pairings of a set of cells

pub record Of (w : Points) (cs : List ℕ) (m : List Pair) : Type 0 where
  pub pairing : Pairing w m
  pub inside : (d : ℕ) → mem d cs ≡ false → sum (hit d) m ≡ 0

-- s is heavier than m, or as heavy and first.
abbrev pub Beats : Points → List Pair → List Pair → Type 0
Beats w s m = (sum w m < sum w s) ⊎ ((sum w m ≡ sum w s) × First s m)

no_more : (w : Points) (s m : List Pair) → Beats w s m → sum w m ≤ sum w s
no_more w s m (inl l) = omega arith
no_more w s m (inr h) = omega (arith, h.0)

abbrev pub Solves : Points → List ℕ → List Pair → Type 0
Solves w cs s = Of w cs s × ((m : List Pair) → Of w cs m → Beats w s m)

-- ---- the lowest cell c with each partner in turn

module _ (n : ℕ) (w : Points) (g : Graph n w) (c : ℕ) (cs : List ℕ) (low : All (λ x. c < x) cs) where
  above : (d : ℕ) → mem d cs ≡ true → c < d
  above = all_mem (λ x. c < x) cs low

  c_off : mem c cs ≡ false
  c_off = fails (is_test (mem c cs)) (λ h. omega (arith, above c h))

  lower_free : (m : List Pair) → Of w (c ∷ cs) m → (d : ℕ) → d < c → partner d m ≡ 0
  lower_free m o d l = partner_none d m (o.inside d (mem_past d c cs (λ e. omega arith) ∙ off))
    where
      off : mem d cs ≡ false
      off = fails (is_test (mem d cs)) (λ h. omega (arith, above d h))

  -- of two pairings, the one that pairs c lower comes first
  lower_first : (s m : List Pair) → Of w (c ∷ cs) s → Of w (c ∷ cs) m → partner c s < partner c m → First s m
  lower_first s m o p l = inr (c, (λ d k. lower_free s o d k ∙ sym (lower_free m p d k)), l)

  -- the pair c, p put in, and taken out
  less_free : (p : ℕ) (k : List Pair) → mem p cs ≡ true → Of w (less p cs) k → (d : ℕ) → mem d cs ≡ false
      → sum (hit d) k ≡ 0
  less_free p k q o d f = o.inside d (less_past p d (mem_apart p d cs q f) cs ∙ f)

  put_in : (p : ℕ) (k : List Pair) → mem p cs ≡ true → 0 < w c p → Of w (less p cs) k → Of w (c ∷ cs) ((c, p) ∷ k)
  put_in p k q h o =
      record {
        pairing = record {
          held = (h, o.pairing.held);
          once = once_cons c p k (λ e. omega (arith, above p q)) (less_free p k q o c c_off)
              (o.inside p (less_gone p cs)) o.pairing.once;
        };
        inside = λ d f. (let r = mem_not d c cs f in
            omega (arith, hit_none d c p r.0 (mem_apart p d cs q r.1), less_free p k q o d r.1));
      }

  take_out : (p : ℕ) (m : List Pair) → Of w (c ∷ cs) m → 1 ≤ sum (like c p) m → Of w (less p cs) (without c p m)
  take_out p m o h =
      record {
        pairing = record {
          held = each_keep (λ a b. not (same c p a b)) (λ a b k e. k) m o.pairing.held;
          once = without_once c p m o.pairing.once;
        };
        inside = λ d f. go d f (eq_test c d) (eq_test p d);
      }
    where
      go : (d : ℕ) → mem d (less p cs) ≡ false → {s t : Bool} → Test (c ≡ d) (c ≢ d) s → Test (p ≡ d) (p ≢ d) t
          → sum (hit d) (without c p m) ≡ 0
      go d f (pass e) y = held_free c p m o.pairing.once h d (inl e)
      go d f (fail k) (pass e) = held_free c p m o.pairing.once h d (inr e)
      go d f (fail k) (fail l) = without_none c p m d (o.inside d (mem_past d c cs k ∙ sym (less_past p d l cs) ∙ f))

  -- the pairings that do not pair c with one of ps
  abbrev Rival : List ℕ → List Pair → Type 0
  Rival ps m = Of w (c ∷ cs) m × ((p : ℕ) → mem p ps ≡ true → partner c m ≢ suc p)

  -- what is had, with the partners ps still to try
  record Leads (ps : List ℕ) (had : List Pair) : Type 0 where
    of : Of w (c ∷ cs) had
    sooner : (p : ℕ) → mem p ps ≡ true → partner c had < suc p
    beats : (m : List Pair) → Rival ps m → Beats w had m

  -- with p tried there are more rivals: those that pair c with p
  either : (p : ℕ) (ps : List ℕ) (m : List Pair) → Rival ps m → Rival (p ∷ ps) m ⊎ (1 ≤ sum (like c p) m)
  either p ps m r = go (eq_test (partner c m) (suc p)) (partner_view c m)
    where
      go : {t : Bool} → Test (partner c m ≡ suc p) (partner c m ≢ suc p) t
          → (sum (hit c) m ≡ 0) ⊎ ((b : ℕ) × (1 ≤ sum (like c b) m)) → Rival (p ∷ ps) m ⊎ (1 ≤ sum (like c p) m)
      go (fail k) v = inl (r.0, mem_more (λ q. partner c m ≢ suc q) p ps k r.1)
      go (pass e) (inl v) = (let z : ⊥ = omega (arith, partner_none c m v) in absurd z)
      go (pass e) (inr (b, v)) =
          (let q : b ≡ p = omega (arith, partner_of c b m r.0.pairing.once v) in
          inr (omega (arith, ap (λ x. sum (like c x) m) q)))

  module _ (p : ℕ) (k : List Pair) (q : mem p cs ≡ true) (best : Solves w (less p cs) k) where
    -- c with p and the best of the others beats all that pair c with p
    pair_beats : (m : List Pair) → Of w (c ∷ cs) m → 1 ≤ sum (like c p) m → Beats w ((c, p) ∷ k) m
    pair_beats m o h = go (best.1 (without c p m) (take_out p m o h))
      where
        apart : (f : Points) → ((a b : ℕ) → f a b ≡ f b a) → sum f m ≡ f c p + sum f (without c p m)
        apart = held_sum c p m o.pairing.once h

        go : Beats w k (without c p m) → Beats w ((c, p) ∷ k) m
        go (inl l) = inl (omega (arith, apart w g.turned))
        go (inr (e, f)) = inr (
          omega (arith, apart w g.turned),
          first_more (λ d. seen suc d c p) k (without c p m) ((c, p) ∷ k) m (λ d. refl)
              (λ d. apart (seen suc d) (seen_turned suc d)) f,
        )

    try : (ps : List ℕ) (had : List Pair) → All (λ x. p < x) ps → Leads (p ∷ ps) had
        → Leads ps (cond (ltb 0 (w c p) && ltb (sum w had) (w c p + sum w k)) ((c, p) ∷ k) had)
    try ps had asc lead = go (and_test (lt_test 0 (w c p)) (lt_test (sum w had) (w c p + sum w k)))
      where
        -- heavier than what is had: it beats the rivals so far by its points
        heavier : sum w had < w c p + sum w k → (m : List Pair) → Rival ps m
            → Rival (p ∷ ps) m ⊎ (1 ≤ sum (like c p) m) → Beats w ((c, p) ∷ k) m
        heavier h m r (inl v) = inl (omega (arith, no_more w had m (lead.beats m v)))
        heavier h m r (inr v) = pair_beats m r.0 v

        Lighter : Type 0
        Lighter = (w c p ≤ 0) ⊎ (w c p + sum w k ≤ sum w had)

        -- else what is had beats those that pair c with p, by its points or by c's partner
        enough : Lighter → (m : List Pair) → Of w (c ∷ cs) m → 1 ≤ sum (like c p) m
            → sum w m ≤ sum w had
        enough (inl z) m o v =
            (let y : ⊥ = omega (arith, held_points w g.turned c p m o.pairing.held v) in absurd y)
        enough (inr z) m o v = omega (arith, no_more w ((c, p) ∷ k) m (pair_beats m o v))

        lighter : Lighter → (m : List Pair) → Rival ps m
            → Rival (p ∷ ps) m ⊎ (1 ≤ sum (like c p) m) → Beats w had m
        lighter h m r (inl v) = lead.beats m v
        lighter h m r (inr v) = by (lt_test (sum w m) (sum w had))
          where
            by : {t : Bool} → Test (sum w m < sum w had) (sum w had ≤ sum w m) t → Beats w had m
            by (pass l) = inl l
            by (fail l) = inr (
              omega (arith, enough h m r.0 v),
              lower_first had m lead.of r.0
                  (omega (arith, lead.sooner p (mem_head p p ps refl), partner_of c p m r.0.pairing.once v)),
            )

        free : partner c k ≡ 0
        free = partner_none c k (less_free p k q best.0 c c_off)

        go : {t : Bool} → Test ((0 < w c p) × (sum w had < w c p + sum w k)) Lighter t
            → Leads ps (cond t ((c, p) ∷ k) had)
        go (pass h) = record {
          of = put_in p k q h.0 best.0;
          sooner = λ x v. omega (arith, seen_left suc c p, free, all_mem (λ x. p < x) ps asc x v);
          beats = λ m r. heavier h.1 m r (either p ps m r);
        }
        go (fail h) = record {
          of = lead.of;
          sooner = λ x v. lead.sooner x (mem_on x p ps v);
          beats = λ m r. lighter h m r (either p ps m r);
        }

  tries_lead : (rest : ℕ → List Pair) → ((p : ℕ) → Solves w (less p cs) (rest p)) → (ps : List ℕ) (had : List Pair)
      → All (λ p. mem p cs ≡ true) ps → Ascends (λ a b. a < b) ps → Leads ps had → Leads [] (tries rest w c ps had)
  tries_lead rest best [] had q a l = l
  tries_lead rest best (p ∷ ps) had q a l =
      tries_lead rest best ps _ q.1 a.1 (try p (rest p) q.0 (best p) ps had a.0 l)

  -- at first c is left free
  free_lead : (had : List Pair) → Solves w cs had → Leads cs had
  free_lead had s =
      record {
        of = record { pairing = s.0.pairing; inside = λ d k. s.0.inside d (mem_not d c cs k).1 };
        sooner = λ p k. omega (arith, partner_none c had (s.0.inside c c_off));
        beats = λ m r. s.1 m (rival m r (partner_view c m));
      }
    where
      rival : (m : List Pair) → Rival cs m → (sum (hit c) m ≡ 0) ⊎ ((b : ℕ) × (1 ≤ sum (like c b) m)) → Of w cs m
      rival m r (inl h) = record { pairing = r.0.pairing; inside = λ d k. go d k (eq_test c d) }
        where
          go : (d : ℕ) → mem d cs ≡ false → {t : Bool} → Test (c ≡ d) (c ≢ d) t → sum (hit d) m ≡ 0
          go d k (pass e) = rw (← e) h
          go d k (fail l) = r.0.inside d (mem_past d c cs l ∙ k)
      rival m r (inr (b, h)) =
          absurd (r.1 b (passes (is_test (mem b cs)) none) (partner_of c b m r.0.pairing.once h))
        where
          apart : c ≢ b
          apart e = omega (arith, held_points w g.turned c b m r.0.pairing.held h, g.loop c, ap (w c) e)

          none : mem b cs ≡ false → ⊥
          none f = omega (arith, like_hit c b m b (inr refl), r.0.inside b (mem_past b c cs apart ∙ f))

-- ---- the laws

-- No cells, no pairs.
of_none : (w : Points) (m : List Pair) → Of w [] m → m ≡ []
of_none w [] o = refl
of_none w (e ∷ m) o =
    (let z : ⊥ = omega (arith, o.inside e.0 refl, hit_some e.0 e.0 e.1 (inl refl)) in absurd z)

solves_none : (w : Points) → Solves w [] []
solves_none w = (
  record { pairing = record { held = tt; once = λ c. omega arith }; inside = λ d k. refl },
  (λ m o. rw (of_none w m o) (inr (refl, inl (λ d. refl)))),
)

pub solve_solves : (n : ℕ) (w : Points) → Graph n w → (k : ℕ) (cs : List ℕ) → length cs ≤ k → Ascends (λ a b. a < b) cs
    → Solves w cs (solve k w cs)
solve_solves n w g zero [] l a = solves_none w
solve_solves n w g zero (c ∷ cs) l a = (let z : ⊥ = omega arith in absurd z)
solve_solves n w g (suc k) [] l a = solves_none w
solve_solves n w g (suc k) (c ∷ cs) l a =
    (let free = solve_solves n w g k cs (omega arith) a.1 in
    let lead = tries_lead n w g c cs a.0 (λ p. solve k w (less p cs))
    (λ p. solve_solves n w g k (less p cs) (omega (arith, less_length p cs)) (less_ascends p cs a.1))
    cs (solve k w cs) (all_members cs) a.1 (free_lead n w g c cs a.0 (solve k w cs) free) in
    (lead.of, λ m o. lead.beats m (o, λ p h. no_mem p h)))

-- Of a graph, with every cell that has a pair among the cells.
module _ (n : ℕ) (w : Points) (g : Graph n w) (cs : List ℕ) (asc : Ascends (λ a b. a < b) cs)
    (all : (a b : ℕ) → 0 < w a b → mem b cs ≡ true) (k : ℕ) (enough : length cs ≤ k) where
  every : (m : List Pair) → Pairing w m → Of w cs m
  every m p = record { pairing = p; inside = λ d f. sum_none (hit d) (away d f) m p.held }
    where
      away : (d : ℕ) → mem d cs ≡ false → (a b : ℕ) → 0 < w a b → hit d a b ≡ 0
      away d f a b h =
          hit_none d a b (mem_apart a d cs (all b a (omega (arith, g.turned a b))) f) (mem_apart b d cs (all a b h) f)

  beats : (m : List Pair) → Pairing w m → Beats w (solve k w cs) m
  beats m p = (solve_solves n w g k cs enough asc).1 m (every m p)

  pub solve_heaviest : Heaviest w w (solve k w cs)
  solve_heaviest =
      record {
        pairing = (solve_solves n w g k cs enough asc).0.pairing;
        most = λ m p. no_more w (solve k w cs) m (beats m p);
      }

  pub solve_first : (m : List Pair) → Heaviest w w m → First (solve k w cs) m
  solve_first m h = go (beats m h.pairing)
    where
      go : Beats w (solve k w cs) m → First (solve k w cs) m
      go (inl l) = (let z : ⊥ = omega (arith, h.most (solve k w cs) solve_heaviest.pairing) in absurd z)
      go (inr b) = b.1
