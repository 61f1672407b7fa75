-- A run is met by a path, and a path gives a run.
use Rattle.std.proofs.Common.{◌≡◌, ◌≢◌, inl, inr, ℕ, ◌<◌, ◌≤◌, List, [], ◌∷◌, ◌++◌, map, refl, sym, ap, ap₂, ◌∙◌, subst, append_assoc, arith}
use Rattle.std.proofs.lemmas.Bool.{cases_lt}
use Rattle.std.proofs.lemmas.List.{append-nil}
use Rattle.semiring_laws.specs.Semiring.{Operations, IsSemiring, Fits, Below}
use Rattle.weighted_automata.specs.declared.place.Place.{Place}
use Rattle.weighted_automata.specs.declared.place.Label.{Label}
use Rattle.weighted_automata.specs.declared.place.Label.TheVariants.{Symbol, Empty}
use Rattle.weighted_automata.specs.declared.transitions.Entry.{Entry}
use Rattle.witness_graph.specs.declared.node.Side.TheVariants.{Pre}
use Rattle.pushdown_rules.specs.Configuration.{Configuration}
use Rattle.pushdown_rules.specs.Pushdown.{Pushdown, IsSystem}
use Rattle.pushdown_rules.specs.Firing.{Run}
use Rattle.pushdown_rules.specs.Values.{value_of}
use Rattle.saturation_laws.specs.declared.opening.Opening.{Opening}
use Rattle.wpds_base.specs.Lists.{IsIn}
use Rattle.saturation_laws.specs.States.{weight_at}
use Rattle.saturation_laws.specs.Paths.{symbols_of, IsPath, EachRun, joined, along, Reads, IsOpened, IsMet, IsGiven}
use Rattle.semiring_laws.proofs.CallerLemmas.{below_itself, extend_keeps_below as extend_below, zero_below}
use Rattle.prestar_laws.specs.Reading.{LeadsOver, PreRun}
use Rattle.prestar_laws.proofs.Weights.{IsClosedUnder}
use Rattle.pushdown_rules.proofs.CallerLemmas.{run_above, run_then, none_from_nothing, ends_control, split, joined_value}
use Rattle.prestar_laws.proofs.RowLemmas.{fits, from_control, from_item}
use Rattle.pushdown_rules.specs.Configuration.{at_stack}
use Rattle.pushdown_rules.specs.Splits.{Falls, Stays}
use Rattle.prestar_laws.proofs.MeetingLemmas.{reads_parts, place_below}
use Rattle.direction_parts.specs.Places.{LeadsToItems, arrow}
use Rattle.direction_parts.proofs.CallerLemmas.{reads_to_item, reads_more, along_fits, is_there}

-- what leads to a control has read nothing
reads_to_control : (controls : ℕ) (edges : List Place) → LeadsToItems controls edges → (from : ℕ) (word : List ℕ) (to : ℕ) → to < controls → Reads edges from word to → (word ≡ []) × (from ≡ to)
reads_to_control controls edges items from [] to low reads = (refl, reads)
reads_to_control controls edges items from (g ∷ word) to low reads =
    absurd (let h : controls ≤ to = reads_to_item controls edges items from (g ∷ word) to (λ e. cc) reads in omega arith)

-- Places that lead over a word, with a product below v.
pub record PlacesMet {W Map : Type 0} (s : Operations W Map) (weight : Place → W) (from : ℕ) (word : List ℕ) (to : ℕ) (v : W) : Type 0 where
  pub places : List Place
  pub leads : IsPath places from word to
  pub below : Below s (along s Pre (map weight places)) v

module _ {W Map : Type 0} {s : Operations W Map} (laws : IsSemiring s) (weight : Place → W) (fit : (x : Place) → Fits s (weight x)) where
  -- one place before
  met_before : (from g mid : ℕ) (word : List ℕ) (to : ℕ) (u v w : W) → Fits s u → Fits s v → Below s (weight (arrow from g mid)) u → s.extend u v ≡ w
      → PlacesMet s weight mid word to v → PlacesMet s weight from (g ∷ word) to w
  met_before from g mid word to u v w fu fv below is rest =
      let x = arrow from g mid in
      let P : W → Type 0 = Below s (s.extend (weight x) (along s Pre (map weight rest.places))) in
      record {
        places = x ∷ rest.places;
        leads = (word, refl, refl, rest.leads);
        below = subst P is (extend_below laws (weight x) u (along s Pre (map weight rest.places)) v (fit x) fu (along_fits laws Pre weight fit rest.places) fv below rest.below);
      }

  -- the opening edges
  edges_met : (edges : List Place) → ((from g to : ℕ) → IsIn (arrow from g to) edges → Below s (weight (arrow from g to)) s.one)
      → (from : ℕ) (word : List ℕ) (to : ℕ) → Reads edges from word to → PlacesMet s weight from word to s.one
  edges_met edges opens from [] to reads = record { places = []; leads = (refl, reads); below = below_itself laws s.one laws.fits-one }
  edges_met edges opens from (g ∷ word) to reads =
      met_before from g reads.0 word to s.one s.one s.one laws.fits-one laws.fits-one (opens from g reads.0 reads.1) (laws.extend-one_left s.one laws.fits-one)
      (edges_met edges opens reads.0 word to reads.2)

module _ {S W Map : Type 0} {operations : S → Operations W Map} {p : Pushdown S W Map} (valid : IsSystem operations p) (laws : IsSemiring (operations p.semiring))
    (edges : List Place) (items : LeadsToItems p.controls edges) where
  abbrev s : Operations W Map
  s = operations p.semiring

  abbrev value : List ℕ → W
  value = value_of s p

  abbrev fv : (run : List ℕ) → Fits s (value run)
  fv run = fits valid laws run

  abbrev runs : Place → List ℕ → Type 0
  runs = PreRun p edges

  module _ (weight : Place → W) (closed : IsClosedUnder s p edges weight) where
    -- a run is met by a path of places
    pub run_met : (word : List ℕ) (run : List ℕ) (from q : ℕ) (d : Configuration) → Run p (at_stack from word) run d → Reads edges d.control d.stack q
        → PlacesMet s weight from word q (value run)
    run_met [] run from q d goes reads =
        let over : run ≡ [] = none_from_nothing p run (at_stack from []) d refl goes in
        let P : List ℕ → Type 0 = λ v. Run p (at_stack from []) v d in
        let same : at_stack from [] ≡ d = subst P over goes in
        let Q : Configuration → Type 0 = λ e. Reads edges e.control e.stack q in
        let R : List ℕ → Type 0 = λ v. PlacesMet s weight from [] q (value v) in
        subst R (sym over) (record { places = []; leads = (refl, subst Q (sym same) reads); below = below_itself laws s.one laws.fits-one })
    run_met (g ∷ word) run from q d goes reads = elim (split p run from (g ∷ []) word d goes) [
      | inl h ↦
          let h' : Falls p from (g ∷ []) word run d = h in
          let a = h'.first in
          let b = h'.rest in
          let first = place_below valid laws edges items weight closed a from g h'.control (at_stack h'.control [], h'.goes, refl) in
          met_before laws weight closed.fits from g h'.control word q (value a) (value b) (value run) (fv a) (fv b) first
          (sym (joined_value valid laws a b (at_stack from (g ∷ [])) (at_stack h'.control []) h'.goes refl) ∙ sym (ap value h'.joins))
          (run_met word b h'.control q d h'.goes_on reads)
      | inr h ↦
          let h' : Stays p from (g ∷ []) word run d = h in
          let P : List ℕ → Type 0 = λ w. Reads edges d.control w q in
          let parts = reads_parts edges d.control h'.word word q (subst P h'.ends reads) in
          let first = place_below valid laws edges items weight closed run from g parts.mid (at_stack d.control h'.word, h'.goes, parts.reads) in
          met_before laws weight closed.fits from g parts.mid word q (value run) s.one (value run) (fv run) laws.fits-one first
          (laws.extend-one_right (value run) (fv run))
          (edges_met laws weight closed.fits edges closed.opens parts.mid word q parts.reads_on)
    ]

  -- one place more
  pub path_step : (from : ℕ) → from < p.controls → (word : List ℕ) (mid g to : ℕ) (a b : List ℕ) → LeadsOver p edges from word mid a → runs (arrow mid g to) b
      → LeadsOver p edges from (word ++ g ∷ []) to (a ++ b) × (value (a ++ b) ≡ s.extend (value a) (value b))
  path_step from control word mid g to a b leads is =
      let d = leads.0 in
      let above : Run p (at_stack from (word ++ g ∷ [])) a (at_stack d.control (d.stack ++ g ∷ [])) = run_above p (g ∷ []) a (at_stack from word) d leads.1 in
      elim (cases_lt mid p.controls) [
        | inl low ↦
            let home = reads_to_control p.controls edges items d.control d.stack mid low leads.2 in
            let next = from_control valid laws edges mid g to b low is in
            let P : Configuration → Type 0 = λ e. Run p (at_stack from (word ++ g ∷ [])) a e in
            let there : at_stack d.control (d.stack ++ g ∷ []) ≡ at_stack mid (g ∷ []) = ap₂ (λ n w. at_stack n (w ++ g ∷ [])) home.1 home.0 in (
              (next.0, run_then p a b (at_stack from (word ++ g ∷ [])) (at_stack mid (g ∷ [])) next.0 (subst P there above) next.1, next.2),
              joined_value valid laws a b (at_stack from word) d leads.1 home.0,
            )
        | inr high ↦
            let edge = from_item valid laws edges mid g to b high is in
            let P : List ℕ → Type 0 = λ r. LeadsOver p edges from (word ++ g ∷ []) to r in
            let none : a ++ b ≡ a = ap (λ r. a ++ r) edge.1 ∙ append-nil a in (
              subst P (sym none) (at_stack d.control (d.stack ++ g ∷ []), above, reads_more edges d.control d.stack mid g to leads.2 edge.0),
              ap value none ∙ sym (laws.extend-one_right (value a) (fv a)) ∙ ap (s.extend (value a)) (sym (ap value edge.1)),
            )
      ]

  -- What a run over a word and the runs along a path are.
  pub record IsLed (from : ℕ) (word : List ℕ) (to : ℕ) (a : List ℕ) (rs : List (List ℕ)) : Type 0 where
    pub leads : LeadsOver p edges from word to (a ++ joined Pre rs)
    pub value_is : value (a ++ joined Pre rs) ≡ s.extend (value a) (along s Pre (map value rs))

  values_fit : (rs : List (List ℕ)) → Fits s (along s Pre (map value rs))
  values_fit [] = laws.fits-one
  values_fit (r ∷ rs) = laws.fits-extend (value r) (along s Pre (map value rs)) (fv r) (values_fit rs)

  module _ (from : ℕ) (control : from < p.controls) where
    abbrev GivesFrom : List Place → List (List ℕ) → Type 0
    GivesFrom xs rs = (done : List ℕ) (mid : ℕ) (a : List ℕ) → LeadsOver p edges from done mid a
        → (word : List ℕ) (to : ℕ) → IsPath xs mid word to → EachRun runs xs rs → IsLed from (done ++ word) to a rs

    by_label : (x : Place) (l : Label) → x.label ≡ l → (xs : List Place) (r : List ℕ) (rs : List (List ℕ)) → GivesFrom xs rs → (done : List ℕ) (mid : ℕ) (a : List ℕ) → LeadsOver p edges from done mid a
        → (word rest : List ℕ) (to : ℕ) → x.from ≡ mid → word ≡ symbols_of l ++ rest → IsPath xs x.to rest to → runs x r → EachRun runs xs rs → IsLed from (done ++ word) to a (r ∷ rs)
    by_label x Empty e xs r rs known done mid a leads word rest to at is path run each =
        let same : x ≡ record { from = x.from; label = Empty; to = x.to } = ap (λ l. let z : Place = record { from = x.from; label = l; to = x.to } in z) e in
        let P : Place → Type 0 = λ z. runs z r in
        absurd (subst P same run)
    by_label x (Symbol g) e xs r rs known done mid a leads word rest to at is path run each =
        let same : x ≡ arrow mid g x.to = ap₂ (λ n l. let z : Place = record { from = n; label = l; to = x.to } in z) at e in
        let P : Place → Type 0 = λ z. runs z r in
        let one = path_step from control done mid g x.to a r leads (subst P same run) in
        let more = known (done ++ g ∷ []) x.to (a ++ r) one.0 rest to path each in
        let words : (done ++ g ∷ []) ++ rest ≡ done ++ word = append_assoc done (g ∷ []) rest ∙ ap (λ w. done ++ w) (sym is) in
        let Q : List ℕ → Type 0 = λ w. LeadsOver p edges from w to ((a ++ r) ++ joined Pre rs) in
        let R : List ℕ → Type 0 = λ z. LeadsOver p edges from (done ++ word) to z in
        let v = along s Pre (map value rs) in
        record {
          leads = subst R (append_assoc a r (joined Pre rs)) (subst Q words more.leads);
          value_is = ap value (sym (append_assoc a r (joined Pre rs))) ∙ more.value_is ∙ ap (λ w. s.extend w v) one.1
              ∙ laws.extend_assoc (value a) (value r) v (fv a) (fv r) (values_fit rs);
        }

    pub path_gives : (xs : List Place) (rs : List (List ℕ)) → GivesFrom xs rs
    path_gives [] [] done mid a leads word to path each =
        let P : ℕ → Type 0 = λ n. LeadsOver p edges from done n a in
        let Q : List ℕ → Type 0 = λ w. LeadsOver p edges from w to a in
        let R : List ℕ → Type 0 = λ z. LeadsOver p edges from (done ++ word) to z in
        let words : done ≡ done ++ word = sym (append-nil done) ∙ ap (λ w. done ++ w) (sym path.0) in
        record {
          leads = subst R (sym (append-nil a)) (subst Q words (subst P path.1 leads));
          value_is = ap value (append-nil a) ∙ sym (laws.extend-one_right (value a) (fv a));
        }
    path_gives [] (r ∷ rs) done mid a leads word to path each = absurd each
    path_gives (x ∷ xs) [] done mid a leads word to path each = absurd each
    path_gives (x ∷ xs) (r ∷ rs) done mid a leads word to path each =
        by_label x x.label refl xs r rs (path_gives xs rs) done mid a leads word path.0 to path.1 path.2 path.3 each.0 each.1

  -- a path from a control gives a run
  pub pre_gives : (o : Opening) → o.edges ≡ edges → (c : Configuration) (xs : List Place) (rs : List (List ℕ)) (to : ℕ) → c.control < p.controls → IsPath xs c.control c.stack to → EachRun runs xs rs
      → IsGiven s value Pre p o c to rs
  pre_gives o same c xs rs to control path each =
      let led = path_gives c.control control xs rs [] c.control [] (at_stack c.control [], refl, refl) c.stack to path each in
      let d = led.leads.0 in
      let P : List Place → Type 0 = λ es. Reads es d.control d.stack to in
      record {
        value_is = led.value_is ∙ laws.extend-one_left (along s Pre (map value rs)) (values_fit rs);
        run = λ final. (d, ends_control valid laws (joined Pre rs) c d led.leads.1 control, (to, subst P (sym same) led.leads.2, final), led.leads.1);
      }

module _ {S W Map : Type 0} {operations : S → Operations W Map} {p : Pushdown S W Map} (valid : IsSystem operations p) (laws : IsSemiring (operations p.semiring))
    (o : Opening) (items : LeadsToItems p.controls o.edges) (ts : List (Entry S W Map))
    (closed : IsClosedUnder (operations p.semiring) p o.edges (λ x. weight_at (operations p.semiring) x ts)) where
  -- a run is met by a path of transitions
  pub pre_met : (run : List ℕ) (from to : Configuration) → Run p from run to → IsOpened o to → value_of (operations p.semiring) p run ≢ (operations p.semiring).zero
      → IsMet (operations p.semiring) Pre o.finals ts from (value_of (operations p.semiring) p run)
  pre_met run from to goes opened some =
      let s = operations p.semiring in
      let v = value_of s p run in
      let weight : Place → W = λ x. weight_at s x ts in
      let met = run_met valid laws o.edges items weight closed from.stack run from.control opened.0 to goes opened.1 in
      let there = is_there laws ts Pre closed.fits met.places (λ none.
      let P : W → Type 0 = λ w. Below s w v in some (zero_below laws v (fits valid laws run) (subst P none met.below))) in
      let Q : List Place → Type 0 = λ xs. IsPath xs from.control from.stack opened.0 in
      let R : List W → Type 0 = λ ws. Below s (along s Pre ws) v in
      record {
        path = there.path;
        to = opened.0;
        present = there.present;
        reads = subst Q (sym there.places) met.leads;
        final = opened.2;
        below = subst R (sym there.weights) met.below;
      }
