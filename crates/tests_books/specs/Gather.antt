-- A direction that draws one consequence from each transition: the same weight for one place. With its laws.
use Rattle.std.specs.Prelude.{◌≡◌, ◌⊎◌, ℕ, zero, suc, Bool, true, false, ◌&&◌, List, [], ◌∷◌, ◌++◌, map, Option, None, Some, is_none, option_map, IsTrue, refl}
use Rattle.std.specs.List.{AllByRecursion}
use Rattle.std.proofs.Common.{sym, ap, ◌∙◌, subst, inl, inr, append-nil}
use Rattle.semiring_laws.specs.Semiring.{Operations, IsSemiring}
use Rattle.weighted_automata.specs.declared.place.Place.{Place}
use Rattle.weighted_automata.specs.declared.place.Label.TheVariants.{Symbol}
use Rattle.weighted_automata.specs.declared.transitions.Entry.{Entry}
use Rattle.weighted_automata.specs.Entries.{Present}
use Rattle.weighted_automata.specs.Places.{same_place}
use Rattle.weighted_automata.proofs.CallerLemmas.{same_place_is, same_place_itself}
use Rattle.witness_graph.specs.declared.node.Side.{Side}
use Rattle.witness_graph.specs.declared.node.Side.TheVariants.{Pre, Post}
use Rattle.witness_graph.specs.Runs.{concatenations, parts_runs, rule_runs}
use Rattle.pushdown_rules.specs.Pushdown.{Pushdown}
use Rattle.pushdown_rules.specs.Values.{value_of}
use Rattle.saturation_laws.specs.declared.opening.Opening.{Opening}
use Rattle.saturation_laws.specs.declared.job.JobKind.{JobKind}
use Rattle.saturation_laws.specs.declared.job.JobKind.TheVariants.{PreStep, PrePushControl, PrePushOther, PostStep, PostPopMiddle, PostPopOther, PostEnter, PostLeave, PostGlue}
use Rattle.saturation_laws.specs.declared.job.Job.{Job}
use Rattle.saturation_laws.specs.Jobs.{Row, Tables, row_of, HasInput, named_rule, named_first}
use Rattle.wpds_base.specs.Lists.{IsIn, IsOnce}
use Rattle.saturation_laws.specs.Directions.{AreRuns, AreInputRuns, IsConsequence, IsDirection, HaveSameCandidates}
use Rattle.saturation_laws.specs.Paths.{EachRun, HasSums, joined, along}

abbrev is_none_of : List ℕ → Bool
is_none_of [] = true
is_none_of (q ∷ qs) = false

abbrev is_forward : Side → Bool
is_forward Pre = false
is_forward Post = true

-- forwards, with no final states
abbrev pub fits_gather : Side → Opening → Bool
fits_gather side o = is_forward side && is_none_of o.finals

-- the place that each transition leads to
abbrev pub hub : Place
hub = record { from = 0; label = Symbol 0; to = 0 }

abbrev is_first : Option ℕ → Bool
is_first None = false
is_first (Some zero) = true
is_first (Some (suc k)) = false

abbrev is_there : Option Place → Bool
is_there None = false
is_there (Some x) = true

abbrev pub is_gathered : Row → Bool
is_gathered r = elim r.kind [ PostLeave ↦ is_first r.rule && (is_none r.frame && (is_there r.first && (is_none r.second && same_place r.goal hub))) | _ ↦ false ]

-- the empty run
abbrev pub gather_runs : Place → List ℕ → Type 0
gather_runs x run = run ≡ []

module _ {S W Map : Type 0} where
  abbrev pub gathering : Entry S W Map → Job S W Map
  gathering t = record { kind = PostLeave; rule = Some 0; frame = None; first = Some t; second = None; goal = hub }

  abbrev worth_of : Operations W Map → Option (Entry S W Map) → W
  worth_of s None = s.zero
  worth_of s (Some t) = t.weight

  abbrev pub gather_tables : Operations W Map → Side → Tables S W Map
  gather_tables s side = record { side = side; rows = is_gathered; candidate = λ j. worth_of s j.first; jobs = λ ts t. gathering t ∷ [] }

  -- the jobs that are rows
  gathered_fields : (rule frame : Option ℕ) (first second : Option (Entry S W Map)) (goal : Place)
      → IsTrue (is_gathered (row_of (record { kind = PostLeave; rule = rule; frame = frame; first = first; second = second; goal = goal })))
      → (t : Entry S W Map) × (record { kind = PostLeave; rule = rule; frame = frame; first = first; second = second; goal = goal } ≡ gathering t)
  gathered_fields None frame first second goal h = cc
  gathered_fields (Some (suc k)) frame first second goal h = cc
  gathered_fields (Some zero) (Some k) first second goal h = cc
  gathered_fields (Some zero) None None second goal h = cc
  gathered_fields (Some zero) None (Some t) (Some u) goal h = cc
  gathered_fields (Some zero) None (Some t) None goal h =
      (t, ap (λ (x : Place). record { kind = PostLeave; rule = Some 0; frame = None; first = Some t; second = None; goal = x }) (same_place_is goal hub h))

  gathered_kind : (kind : JobKind) (rule frame : Option ℕ) (first second : Option (Entry S W Map)) (goal : Place)
      → IsTrue (is_gathered (row_of (record { kind = kind; rule = rule; frame = frame; first = first; second = second; goal = goal })))
      → (t : Entry S W Map) × (record { kind = kind; rule = rule; frame = frame; first = first; second = second; goal = goal } ≡ gathering t)
  gathered_kind PostLeave rule frame first second goal h = gathered_fields rule frame first second goal h
  gathered_kind PreStep rule frame first second goal h = cc
  gathered_kind PrePushControl rule frame first second goal h = cc
  gathered_kind PrePushOther rule frame first second goal h = cc
  gathered_kind PostStep rule frame first second goal h = cc
  gathered_kind PostPopMiddle rule frame first second goal h = cc
  gathered_kind PostPopOther rule frame first second goal h = cc
  gathered_kind PostEnter rule frame first second goal h = cc
  gathered_kind PostGlue rule frame first second goal h = cc

  gathered : (j : Job S W Map) → IsTrue (is_gathered (row_of j)) → (t : Entry S W Map) × (j ≡ gathering t)
  gathered j h = gathered_kind j.kind j.rule j.frame j.first j.second j.goal h

  is_row : (t : Entry S W Map) → IsTrue (is_gathered (row_of (gathering t)))
  is_row t = same_place_itself hub

  its_input : (t u : Entry S W Map) → HasInput (gathering t) u → t ≡ u
  its_input t u (inl e) = cc
  its_input t u (inr e) = cc

-- one job stands once
pub gather_once : {S W Map : Type 0} (t : Entry S W Map) → IsOnce (gathering t ∷ [])
gather_once t = (λ h. h, tt)

-- runs with nothing after them
each_alone : (xs : List (List ℕ)) → concatenations xs ([] ∷ []) ≡ xs
each_alone [] = refl
each_alone (x ∷ xs) = ap (λ y. y ∷ concatenations xs ([] ∷ [])) (append-nil x) ∙ ap (λ ys. x ∷ ys) (each_alone xs)

module _ {S W Map : Type 0} (s : Operations W Map) (p : Pushdown S W Map) (o : Opening) where
  gather_sound : (j : Job S W Map) (t : Entry S W Map) → j ≡ gathering t → (xs ys : List (List ℕ)) → AreInputRuns s (value_of s p) gather_runs (named_first j) xs → AreInputRuns s (value_of s p) gather_runs j.second ys
      → AreRuns s (value_of s p) gather_runs j.goal (worth_of s j.first) (parts_runs Post (rule_runs (named_rule j)) xs ys)
  gather_sound j t is xs ys first second =
      let P : Job S W Map → Type 0 = λ k. AreInputRuns s (value_of s p) gather_runs (named_first k) xs → AreInputRuns s (value_of s p) gather_runs k.second ys
      → AreRuns s (value_of s p) gather_runs k.goal (worth_of s k.first) (parts_runs Post (rule_runs (named_rule k)) xs ys) in
      subst P (sym is) (λ mine none.
      let same : xs ≡ concatenations xs (concatenations ys ([] ∷ [])) = sym (ap (λ zs. concatenations xs (concatenations zs ([] ∷ []))) none ∙ each_alone xs) in
      let Q : List (List ℕ) → Type 0 = AreRuns s (value_of s p) gather_runs hub t.weight in
      subst Q same (record { each = mine.each; weight = mine.weight })) first second

  gather_laws : IsDirection s p o (gather_tables s Post) (hub ∷ []) gather_runs
  gather_laws = record {
    sound = λ j xs ys row first second. let is = gathered j row in gather_sound j is.0 is.1 xs ys first second;
    opens = λ x there. refl;
    pops = λ side. cc;
    asks = λ j row. let is = gathered j row in (is.0, inl (ap (λ k. k.first) is.1));
    names = λ j row. let is = gathered j row in let P : Job S W Map → Type 0 = λ k. IsTrue (Rattle.std.specs.Prelude.◌||◌ (Rattle.std.specs.Prelude.is_some (named_rule k)) (Rattle.std.specs.Prelude.◌||◌ (Rattle.std.specs.Prelude.is_some (named_first k)) (Rattle.std.specs.Prelude.is_some k.second))) in subst P (sym is.1) refl;
    reaches = λ j row inputs. let is = gathered j row in inl (sym (ap (λ k. k.goal) is.1));
    jobs_are = λ ts t j distinct there listed. elim listed [
      | inl e ↦
          let P : Job S W Map → Type 0 = λ k. IsConsequence (gather_tables s Post) ts k × HasInput k t in
          let Q : Entry S W Map → Type 0 = Present ts in
          subst P e (record { row = is_row t; inputs = λ u input. subst Q (its_input t u input) there }, inl refl)
      | inr h ↦ absurd h
    ];
    jobs_all = λ ts t j distinct there drawn input.
        let is = gathered j drawn.row in
        let P : Job S W Map → Type 0 = λ k. HasInput k t in
        let same : is.0 ≡ t = its_input is.0 t (subst P is.1 input) in
        inl (sym (is.1 ∙ ap gathering same));
  }

pub gather_direction : {S W Map : Type 0} (s : Operations W Map) (side : Side) (p : Pushdown S W Map) (o : Opening) → IsTrue (fits_gather side o) → IsDirection s p o (gather_tables s side) (hub ∷ []) gather_runs
gather_direction s Pre p o fits = cc
gather_direction s Post p o fits = gather_laws s p o

never_final : (qs : List ℕ) → IsTrue (is_none_of qs) → (q : ℕ) → IsIn q qs → ⊥
never_final [] fits q h = h
never_final (r ∷ qs) fits q h = cc

gather_joined : (xs : List Place) (rs : List (List ℕ)) → EachRun gather_runs xs rs → joined Post rs ≡ []
gather_joined [] [] each = refl
gather_joined [] (r ∷ rs) each = absurd each
gather_joined (x ∷ xs) [] each = absurd each
gather_joined (x ∷ xs) (r ∷ rs) each = ap (λ z. joined Post rs ++ z) each.0 ∙ ap (λ z. z ++ []) (gather_joined xs rs each.1)

module _ {S W Map : Type 0} where
  gather_along : (s : Operations W Map) → IsSemiring s → (p : Pushdown S W Map) (xs : List Place) (rs : List (List ℕ)) → EachRun gather_runs xs rs → along s Post (map (value_of s p) rs) ≡ s.one
  gather_along s law p [] [] each = refl
  gather_along s law p [] (r ∷ rs) each = absurd each
  gather_along s law p (x ∷ xs) [] each = absurd each
  gather_along s law p (x ∷ xs) (r ∷ rs) each =
      ap (λ v. s.extend v (value_of s p r)) (gather_along s law p xs rs each.1)
      ∙ ap (λ run. s.extend s.one (value_of s p run)) each.0
      ∙ law.extend-one_left s.one law.fits-one

  pub gather_sums : (s : Operations W Map) → IsSemiring s → (side : Side) (p : Pushdown S W Map) (o : Opening) → IsTrue (fits_gather side o) → (ts : List (Entry S W Map))
      → HasSums s (value_of s p) p o side (gather_tables s side) ts gather_runs
  gather_sums s law Pre p o fits ts = cc
  gather_sums s law Post p o fits ts = record {
    met = λ us saturated run from to below within joins opened. absurd (never_final o.finals fits opened.0 opened.2);
    gives = λ c xs rs to below path each. record {
      value_is = ap (value_of s p) (gather_joined xs rs each) ∙ sym (gather_along s law p xs rs each);
      run = λ final. absurd (never_final o.finals fits to final);
    };
  }

  pub gather_candidates : (operations : S → Operations W Map) (one other : Side) (p q : Pushdown S W Map) → HaveSameCandidates (gather_tables (operations p.semiring) one) (gather_tables (operations q.semiring) other) p q
  gather_candidates operations one other p q = λ j side agree. ap (λ (x : S). worth_of (operations x) j.first) agree.semiring
