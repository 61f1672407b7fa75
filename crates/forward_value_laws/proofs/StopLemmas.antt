-- A walk that goes no further where tails tell the rest gives the answer. One that always goes on is a case of it.
use Rattle.std.proofs.Common.{◌≡◌, ◌≢◌, ◌⊎◌, inl, inr, ℕ, true, false, Bool, List, [], ◌∷◌, ◌++◌, length, refl, sym, ap, ◌∙◌, subst, ◌≤◌, arith}
use Rattle.std.specs.Prelude.{Some, slice_get, IsTrue, IsFalse, nat_eq}
use Rattle.std.proofs.lemmas.Bool.{and_parts, eqb-true, cases_Bool, false≢true}
use Rattle.wpds_base.specs.Lists.{IsIn}
use Rattle.semiring_laws.specs.Semiring.{Operations, IsSemiring, Fits, Below}
use Rattle.semiring_laws.proofs.CallerLemmas.{below_trans, below_zero, extend_keeps_below, extend_left_keeps_below, below_itself}
use Rattle.pushdown_rules.specs.declared.rule.Rule.{Rule}
use Rattle.pushdown_rules.specs.Configuration.{Configuration, at_stack}
use Rattle.pushdown_rules.specs.Pushdown.{Pushdown, IsSystem}
use Rattle.pushdown_rules.specs.Firing.{Run}
use Rattle.pushdown_rules.specs.Values.{value_of}
use Rattle.pushdown_rules.specs.Answers.{Answers, Leads}
use Rattle.pushdown_rules.proofs.CallerLemmas.{value_fits, weight_fits}
use Rattle.config_patterns.specs.declared.edge.Edge.{Edge}
use Rattle.config_patterns.specs.Edges.{edges_of, is_final_of}
use Rattle.config_patterns.specs.Paths.{Reads}
use Rattle.config_patterns.specs.Membership.{PatternValue, has_member, items_match}
use Rattle.config_patterns.proofs.CallerLemmas.{members_read}
use Rattle.forward_value_laws.specs.Model.{Source, item, callee, head_of, IsClosed, IsItem, Down, IsWalked}
use Rattle.forward_value_laws.specs.Tails.{AreTails, IsWalkedTo}
use Rattle.forward_value_laws.proofs.MeetingLemmas.{zero_or}
use Rattle.forward_value_laws.proofs.DeepLemmas.{down_fits, run_met}
use Rattle.value_laws.specs.Runs.{Sums}

module _ {S W Map : Type 0} {operations : S → Operations W Map} {p : Pushdown S W Map} (valid : IsSystem operations p) (laws : IsSemiring (operations p.semiring))
    (first wanted : PatternValue) where
  abbrev s : Operations W Map
  s = operations p.semiring

  abbrev value : List ℕ → W
  value = value_of s p

  abbrev fv : (run : List ℕ) → Fits s (value run)
  fv run = value_fits valid laws run

  abbrev edges : List Edge
  edges = edges_of first.items

  abbrev others : List Edge
  others = edges_of wanted.items

  abbrev Lead : List ℕ → Type 0
  Lead run = Leads s p (has_member first) (has_member wanted) run

  -- a tail is below each way down
  module _ (weight : Configuration → Source → W) (closed : IsClosed s p first.control edges weight) (tail : Source → W) (tails : AreTails s p first.items weight tail) where
    tail_below : (under : List ℕ) (from : Source) (deep : W) → Down s p first.items weight under from deep → Below s (tail from) deep
    tail_below [] (item i) deep down = let P : W → Type 0 = Below s (tail (item i)) in subst P (sym down.3) (tails.ends i [] down.0 down.1 down.2)
    tail_below (h ∷ under) (item i) deep down = let P : W → Type 0 = Below s (tail (item i)) in subst P (sym down.3) (tails.ends i (h ∷ under) down.0 down.1 down.2)
    tail_below [] (callee to g) deep down = absurd down
    tail_below (h ∷ under) (callee to g) deep down =
        let from = down.0 in
        let v = down.1 in
        let u = down.2 in
        let is = down.3 in
        let r = is.rule in
        let fr = weight_fits valid laws is.number r is.there in
        let call = s.extend (weight (head_of r) from) r.weight in
        let fc = laws.fits-extend (weight (head_of r) from) r.weight (closed.fits (head_of r) from) fr in
        let fd = down_fits valid laws first.control first.items weight closed under from v down.4 in
        let ft = tails.fits from in
        let P : ℕ → Type 0 = λ n. Below s (tail (callee n g)) (s.extend (tail from) call) in
        let step : Below s (tail (callee to g)) (s.extend (tail from) call) = subst P is.into (tails.opens is.number r is.there g h is.right from) in
        let on = extend_keeps_below laws (tail from) v call call ft fd fc fc (tail_below under from v down.4) (below_itself laws call fc) in
        let all : Below s (tail (callee to g)) (s.extend v call) =
        below_trans laws (tail (callee to g)) (s.extend (tail from) call) (s.extend v call) (tails.fits (callee to g)) (laws.fits-extend (tail from) call ft fc) (laws.fits-extend v call fd fc) step on in
        let Q : W → Type 0 = Below s (tail (callee to g)) in
        subst Q (sym (down.5 ∙ ap (s.extend v) is.worth)) all

  module _ (weight : Configuration → Source → W) (closed : IsClosed s p first.control edges weight) (stops : ℕ → Bool) (tail : Source → W) (tails : (j : ℕ) → IsTrue (stops j) → AreTails s p first.items weight tail)
      (pair : ℕ → Source → W) (answer : W) (walked : IsWalkedTo s p first.items weight wanted.control wanted.items stops tail pair answer) where
    -- where the walk stops
    stopped : (under : List ℕ) (from : Source) (deep : W) → Down s p first.items weight under from deep → (j : ℕ) → IsTrue (stops j) → (z : W) → Fits s z → Below s (pair j from) z → Below s answer (s.extend deep z)
    stopped under from deep down j stop z fz below =
        let known = tails j stop in
        let ft = known.fits from in
        let fj = walked.fits j from in
        let fd = down_fits valid laws first.control first.items weight closed under from deep down in
        below_trans laws answer (s.extend (tail from) (pair j from)) (s.extend deep z) walked.fits_answer (laws.fits-extend (tail from) (pair j from) ft fj) (laws.fits-extend deep z fd fz) (walked.tails j stop from)
        (extend_keeps_below laws (tail from) deep (pair j from) z ft fd fj fz (tail_below weight closed tail known under from deep down) below)

    read_down : (under : List ℕ) (i j : ℕ) (z : W) → Fits s z → Below s (pair j (item i)) z → (last last' : ℕ) → Reads edges i under last → IsTrue (is_final_of first.items last)
        → Reads others j under last' → IsTrue (is_final_of wanted.items last') → Below s answer z
    read_down [] i j z fz below last last' same final same' final' = elim (cases_Bool (stops j)) [
      | inl stop ↦
          let T : W → Type 0 = Below s answer in
          subst T (laws.extend-one_left z fz) (stopped [] (item i) s.one (last, same, final, refl) j stop z fz below)
      | inr on ↦
          let P : ℕ → Type 0 = λ n. IsTrue (is_final_of first.items n) in
          let Q : ℕ → Type 0 = λ n. IsTrue (is_final_of wanted.items n) in
          below_trans laws answer (pair j (item i)) z walked.fits_answer (walked.fits j (item i)) fz (walked.ends j i on (subst Q (sym same') final') (subst P (sym same) final)) below
    ]
    read_down (h ∷ under) i j z fz below last last' reads final reads' final' = elim (cases_Bool (stops j)) [
      | inl stop ↦
          let T : W → Type 0 = Below s answer in
          subst T (laws.extend-one_left z fz) (stopped (h ∷ under) (item i) s.one (last, reads, final, refl) j stop z fz below)
      | inr on ↦
          let i' = reads.0 in
          let j' = reads'.0 in
          read_down under i' j' z fz
          (below_trans laws (pair j' (item i')) (pair j (item i)) z (walked.fits j' (item i')) (walked.fits j (item i)) fz (walked.reads h j j' i i' on reads'.1 reads.1) below) last last' reads.2 final reads'.2 final'
    ]

    read_item : (under : List ℕ) (i : ℕ) (deep : W) → Down s p first.items weight under (item i) deep → (j : ℕ) (z : W) → Fits s z → Below s (pair j (item i)) z
        → (last : ℕ) → Reads others j under last → IsTrue (is_final_of wanted.items last) → Below s answer (s.extend deep z)
    read_item under i deep down j z fz below last reads final =
        let T : W → Type 0 = Below s answer in
        subst T (sym (ap (λ x. s.extend x z) down.3 ∙ laws.extend-one_left z fz)) (read_down under i j z fz below down.0 last down.1 down.2 reads final)

    walk_down : (under : List ℕ) (from : Source) (deep : W) → Down s p first.items weight under from deep → (j : ℕ) (z : W) → Fits s z → Below s (pair j from) z
        → (last : ℕ) → Reads others j under last → IsTrue (is_final_of wanted.items last) → Below s answer (s.extend deep z)
    walk_down [] (item i) deep down j z fz below last reads final = read_item [] i deep down j z fz below last reads final
    walk_down (h ∷ under) (item i) deep down j z fz below last reads final = read_item (h ∷ under) i deep down j z fz below last reads final
    walk_down [] (callee to g) deep down j z fz below last reads final = absurd down
    walk_down (h ∷ under) (callee to g) deep down j z fz below last reads final = elim (cases_Bool (stops j)) [
      | inl stop ↦ stopped (h ∷ under) (callee to g) deep down j stop z fz below
      | inr on ↦
          let from = down.0 in
          let v = down.1 in
          let u = down.2 in
          let is = down.3 in
          let r = is.rule in
          let j' = reads.0 in
          let fr = weight_fits valid laws is.number r is.there in
          let fh = closed.fits (head_of r) from in
          let fu : Fits s u = subst (Fits s) (sym is.worth) (laws.fits-extend (weight (head_of r) from) r.weight fh fr) in
          let fd = down_fits valid laws first.control first.items weight closed under from v down.4 in
          let fj = walked.fits j (callee to g) in
          let P : ℕ → Type 0 = λ n. Below s (pair j' from) (s.extend (s.extend (weight (head_of r) from) r.weight) (pair j (callee n g))) in
          let Q : W → Type 0 = λ x. Below s (pair j' from) (s.extend x (pair j (callee to g))) in
          let step : Below s (pair j' from) (s.extend u (pair j (callee to g))) = subst Q (sym is.worth) (subst P is.into (walked.opens is.number r is.there g h is.right j j' on reads.1 from)) in
          let here : Below s (pair j' from) (s.extend u z) =
          below_trans laws (pair j' from) (s.extend u (pair j (callee to g))) (s.extend u z) (walked.fits j' from) (laws.fits-extend u (pair j (callee to g)) fu fj) (laws.fits-extend u z fu fz)
          step (extend_left_keeps_below laws u (pair j (callee to g)) z fu fj fz below) in
          let T : W → Type 0 = Below s answer in
          subst T (sym (laws.extend_assoc v u z fd fu fz) ∙ ap (λ x. s.extend x z) (sym down.5)) (walk_down under from v down.4 j' (s.extend u z) (laws.fits-extend u z fu fz) here last reads.2 final)
    ]

    -- a configuration that is met and wanted
    from_top : (control : ℕ) (top under : List ℕ) → length top ≤ 1 → control ≡ wanted.control → (from : Source) → (top ≡ [] → IsItem from) → (deep : W) → Down s p first.items weight under from deep
        → (last : ℕ) → Reads others 0 (top ++ under) last → IsTrue (is_final_of wanted.items last) → Below s answer (s.extend deep (weight (at_stack control top) from))
    from_top control [] under few at (item i) full deep down last reads final =
        let P : ℕ → Type 0 = λ n. Below s (pair 0 (item i)) (weight (at_stack n []) (item i)) in
        walk_down under (item i) deep down 0 (weight (at_stack control []) (item i)) (closed.fits (at_stack control []) (item i)) (subst P (sym at) (walked.uncovered i)) last reads final
    from_top control [] under few at (callee to g) full deep down last reads final = absurd (full refl)
    from_top control (g ∷ []) under few at from full deep down last reads final =
        let P : ℕ → Type 0 = λ n. Below s (pair reads.0 from) (weight (at_stack n (g ∷ [])) from) in
        walk_down under from deep down reads.0 (weight (at_stack control (g ∷ [])) from) (closed.fits (at_stack control (g ∷ [])) from) (subst P (sym at) (walked.tops g reads.0 reads.1 from)) last reads.2 final
    from_top control (g ∷ h ∷ top) under few at from full deep down last reads final = absurd (omega arith)

    met : (run : List ℕ) (c d : Configuration) → IsTrue (has_member first c) → IsTrue (has_member wanted d) → Run p c run d → value run ≢ s.zero → Below s answer (value run)
    met run c d from to goes live =
        let parts = and_parts (nat_eq c.control first.control) (items_match first.items c.stack) from in
        let parts' = and_parts (nat_eq d.control wanted.control) (items_match wanted.items d.stack) to in
        let begin : c.control ≡ first.control = eqb-true c.control first.control parts.0 in
        let end : d.control ≡ wanted.control = eqb-true d.control wanted.control parts'.0 in
        let read = (members_read first.items c.stack).0 parts.1 in
        let read' = (members_read wanted.items d.stack).0 parts'.1 in
        let P : ℕ → Type 0 = λ n. Run p (at_stack n c.stack) run d in
        let is = run_met valid laws first.control first.items weight closed c.stack read.0 run d read.1 read.2 (subst P begin goes) live in
        let Q : List ℕ → Type 0 = λ w. Reads others 0 w read'.0 in
        let low = from_top d.control is.top is.under is.few end is.from is.full is.deep is.down read'.0 (subst Q is.parts read'.1) read'.2 in
        let top = weight (at_stack d.control is.top) is.from in
        let ft = closed.fits (at_stack d.control is.top) is.from in
        let fd = down_fits valid laws first.control first.items weight closed is.under is.from is.deep is.down in
        below_trans laws answer (s.extend is.deep top) (value run) walked.fits_answer (laws.fits-extend is.deep top fd ft) (fv run) low is.below

    below_run : (run : List ℕ) → Lead run → Below s answer (value run)
    below_run run lead = elim (zero_or laws (value run) (fv run)) [
      | inl none ↦ let T : W → Type 0 = Below s answer in subst T (sym none) (below_zero laws answer walked.fits_answer)
      | inr live ↦ met run lead.0 lead.1 lead.2 lead.3 lead.4 live
    ]

    -- the answer
    pub stopped_answers : (sum : Sums s value Lead answer) → Answers s p (has_member first) (has_member wanted) answer sum.list
    stopped_answers sum = record { lead = sum.each; combined = sum.weight; below = below_run }

  -- a walk that always goes on
  pub walk_answers : (weight : Configuration → Source → W) → IsClosed s p first.control edges weight → (pair : ℕ → Source → W) (answer : W) → IsWalked s p first.items weight wanted.control wanted.items pair answer
      → (sum : Sums s value Lead answer) → Answers s p (has_member first) (has_member wanted) answer sum.list
  walk_answers weight closed pair answer walked sum = stopped_answers weight closed (λ _. false) (λ _. s.zero) (λ j no. absurd (false≢true no)) pair answer (record {
    fits = walked.fits;
    fits_answer = walked.fits_answer;
    tops = walked.tops;
    uncovered = walked.uncovered;
    opens = λ k r there g h right i j _ edge from. walked.opens k r there g h right i j edge from;
    reads = λ h i j a b _ edge edge'. walked.reads h i j a b edge edge';
    ends = λ j a _ final final'. walked.ends j a final final';
    tails = λ j no from. absurd (false≢true no);
  }) sum
