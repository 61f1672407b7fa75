-- Frames and middles by the numbers of the push rules, and what no row lists.
use Rattle.std.proofs.Common.{◌≡◌, ℕ, zero, suc, ◌+◌, ◌-◌, ◌<◌, ◌≤◌, Bool, true, false, List, [], ◌∷◌, ◌++◌, length, refl, sym, ap, ap₂, ◌∙◌, append-nil, inl, inr, arith}
use Rattle.std.specs.Prelude.{Option, None, Some, option_map, cond, nat_eq, ◌&&◌, slice_get, take}
use Rattle.std.specs.List.{count_by}
use Rattle.std.proofs.lemmas.Bool.{and_parts, and_from, cond-true, cond-false, cond_both, cases_Bool, eqb-true, eq-eqb, false_from_ne_true}
use Rattle.std.proofs.lemmas.Option.{same_Some}
use Rattle.std.proofs.lemmas.List.Recursion.{is_count_by}
use Rattle.weighted_automata.specs.declared.place.Place.{Place}
use Rattle.weighted_automata.specs.declared.place.Label.{Label}
use Rattle.weighted_automata.specs.declared.place.Label.TheVariants.{Symbol, Empty}
use Rattle.weighted_automata.specs.declared.transitions.Entry.{Entry}
use Rattle.weighted_automata.specs.Places.{same_label}
use Rattle.weighted_automata.specs.Entries.{is_from, is_out_of, is_empty_into}
use Rattle.key_rows.specs.Rows.{index_from, index_where}
use Rattle.pushdown_rules.specs.declared.rule.Rule.{Rule}
use Rattle.pushdown_rules.specs.Pushdown.{Pushdown}
use Rattle.pushdown_rules.specs.Rows.{indices_from, has_head, next_with_head, push_number}
use Rattle.pushdown_rules.proofs.CallerLemmas.{index_found, IsFound, with_head_goes_on}
use Rattle.saturation_laws.specs.declared.job.JobKind.{JobKind}
use Rattle.saturation_laws.specs.declared.job.JobKind.TheVariants.{PreStep, PrePushControl, PrePushOther, PostStep, PostPopMiddle, PostPopOther, PostEnter, PostLeave, PostGlue}
use Rattle.direction_parts.specs.Places.{arrow, reads_symbol}
use Rattle.direction_parts.specs.Passes.{two_symbols}
use Rattle.direction_parts.proofs.CallerLemmas.{by_number-none, by_rule_is}
use Rattle.poststar_laws.specs.declared.drawn.Drawn.{Drawn}
use Rattle.poststar_laws.specs.Middles.{is_push, pushes_of, count_pushes, pushes_before, middle_of, frame_from, frame_of}
use Rattle.poststar_laws.specs.Rows.{drawn_to, drawn, are_glued}
use Rattle.poststar_laws.specs.Jobs.{drawn_job, jobs_drawn, rule_jobs, of_kind, kind_jobs, glue_job, glue_jobs}
use Rattle.poststar.specs.private.Passes.{kind_of, pops_of, fires_on}
use Rattle.poststar.specs.private.Meetings.{may_glue}

not_both : {P : Type 0} (b : Bool) → b ≡ false → b ≡ true → P
not_both b fails holds = let e : true ≡ false = sym holds ∙ fails in cc

module _ {S W Map : Type 0} where
  -- the frame of a state, by the list of the push rules
  frame_by_from : (k m q : ℕ) (rs : List (Rule S W Map)) → m ≤ q → frame_from k m rs q ≡ slice_get (indices_from is_push k rs) (q - m)
  frame_by_from k m q [] high = refl
  frame_by_from k m q (r ∷ rs) high =
      let one : suc k ≡ k + 1 = omega arith in
      elim (is_push r) as (λ b. cond b (cond (nat_eq q m) (Some k) (frame_from (suc k) (suc m) rs q)) (frame_from (suc k) m rs q) ≡ slice_get (cond b (k ∷ indices_from is_push (k + 1) rs) (indices_from is_push (k + 1) rs)) (q - m)) [
        | true ↦ elim (cases_Bool (nat_eq q m)) [
          | inl same ↦
              let at : q ≡ m = eqb-true q m same in
              let none : 0 ≡ q - m = omega (arith, at) in
              cond-true (nat_eq q m) (Some k) (frame_from (suc k) (suc m) rs q) same ∙ ap (slice_get (k ∷ indices_from is_push (k + 1) rs)) none
          | inr other ↦
              let differs : q ≡ m → ⊥ = λ e. not_both (nat_eq q m) other (eq-eqb q m e) in
              let more : suc (q - suc m) ≡ q - m = omega (arith, high, differs) in
              cond-false (nat_eq q m) (Some k) (frame_from (suc k) (suc m) rs q) other
              ∙ frame_by_from (suc k) (suc m) q rs (omega (arith, high, differs))
              ∙ ap (λ n. slice_get (indices_from is_push n rs) (q - suc m)) one
              ∙ ap (slice_get (k ∷ indices_from is_push (k + 1) rs)) more
        ]
        | false ↦ frame_by_from (suc k) m q rs high ∙ ap (λ n. slice_get (indices_from is_push n rs) (q - m)) one
      ]

  pub frame_by : (base q : ℕ) (rs : List (Rule S W Map)) → base ≤ q → slice_get (indices_from is_push 0 rs) (q - base) ≡ frame_of base rs q
  frame_by base q rs high = sym (frame_by_from 0 base q rs high)

  frame_none_from : (k m q : ℕ) (rs : List (Rule S W Map)) → q < m → None ≡ frame_from k m rs q
  frame_none_from k m q [] low = refl
  frame_none_from k m q (r ∷ rs) low =
      cond_both (is_push r) (cond (nat_eq q m) (Some k) (frame_from (suc k) (suc m) rs q)) (frame_from (suc k) m rs q) (λ o. None ≡ o)
      (λ _. cond_both (nat_eq q m) (Some k) (frame_from (suc k) (suc m) rs q) (λ o. None ≡ o) (λ same. let at : q ≡ m = eqb-true q m same in absurd (omega (arith, at, low))) (λ _. frame_none_from (suc k) (suc m) q rs (omega (arith, low))))
      (λ _. frame_none_from (suc k) m q rs low)

  pub frame_none : (base q : ℕ) (rs : List (Rule S W Map)) → q < base → None ≡ frame_of base rs q
  frame_none base q rs low = frame_none_from 0 base q rs low

  -- how many push rules stand before a rule
  pushes_counted : (rs : List (Rule S W Map)) → count_pushes rs ≡ count_by is_push rs
  pushes_counted rs = is_count_by count_pushes is_push refl (λ r us. elim (is_push r) as (λ b. cond b 1 0 + count_pushes us ≡ cond b (1 + count_pushes us) (count_pushes us)) [ true ↦ refl | false ↦ omega arith ]) rs

  before_taken : (rs : List (Rule S W Map)) (k : ℕ) → pushes_before rs k ≡ count_pushes (take k rs)
  before_taken [] zero = refl
  before_taken [] (suc k) = refl
  before_taken (r ∷ rs) zero = refl
  before_taken (r ∷ rs) (suc k) = ap (λ n. pushes_of r + n) (before_taken rs k)

  few_taken : (rs : List (Rule S W Map)) (k : ℕ) → pushes_before rs k ≤ length rs
  few_taken [] k = omega arith
  few_taken (r ∷ rs) zero = omega arith
  few_taken (r ∷ rs) (suc k) =
      let rest = few_taken rs k in
      let one : pushes_of r ≤ 1 = cond_both (is_push r) 1 0 (λ n. n ≤ 1) (λ _. omega arith) (λ _. omega arith) in
      let long : length (r ∷ rs) ≡ suc (length rs) = refl in omega (arith, rest, one, long)

  numbered : (rs : List (Rule S W Map)) (k n : ℕ) → push_number k rs ≡ Some n → n ≡ pushes_before rs k
  numbered rs k n e = elim (slice_get rs k) as (λ o. elim o [ None ↦ None | Some r ↦ cond (is_push r) (Some (count_by is_push (take k rs))) None ] ≡ Some n → n ≡ pushes_before rs k) [
    | None ↦ λ f. cc
    | Some r ↦ λ f. cond_both (is_push r) (Some (count_by is_push (take k rs))) None (λ o. o ≡ Some n → n ≡ pushes_before rs k)
        (λ _ h. sym (before_taken rs k ∙ pushes_counted (take k rs) ∙ same_Some (count_by is_push (take k rs)) n h)) (λ _ h. cc) f
  ] e

  pub middle_is : (base : ℕ) (rs : List (Rule S W Map)) (k n : ℕ) → push_number k rs ≡ Some n → base + n ≡ middle_of base rs k
  middle_is base rs k n e = ap (λ m. base + m) (numbered rs k n e)

  pub few_before : (rs : List (Rule S W Map)) (k n : ℕ) → push_number k rs ≡ Some n → n ≤ length rs
  few_before rs k n e = let few = few_taken rs k in omega (arith, few, numbered rs k n e)

  pub has_number : {P : Type 0} (rs : List (Rule S W Map)) (k : ℕ) (r : Rule S W Map) → slice_get rs k ≡ Some r → is_push r ≡ true → push_number k rs ≡ None → P
  has_number rs k r there push none =
      let e : Some (count_by is_push (take k rs)) ≡ None = sym (cond-true (is_push r) (Some (count_by is_push (take k rs))) None push)
      ∙ sym (ap (λ o. elim o [ None ↦ None | Some u ↦ cond (is_push u) (Some (count_by is_push (take k rs))) None ]) there) ∙ none in cc

  -- what a rule draws depends on its middle only where it is a push rule
  module _ (r : Rule S W Map) (m n : ℕ) where
    abbrev entered : ℕ → Option (ℕ × ℕ) → Option Drawn
    entered middle o = elim o [ None ↦ None | Some v ↦ drawn_to (arrow r.to v.0 middle) ]

    abbrev left : ℕ → ℕ → Option (ℕ × ℕ) → Option Drawn
    left middle q o = elim o [ None ↦ None | Some v ↦ drawn_to (arrow middle v.1 q) ]

    enter_same : (w : List ℕ) → (nat_eq (length w) 2 ≡ true → m ≡ n) → entered m (two_symbols w) ≡ entered n (two_symbols w)
    enter_same [] e = refl
    enter_same (a ∷ []) e = refl
    enter_same (a ∷ b ∷ []) e = ap (λ x. drawn_to (arrow r.to a x)) (e (eq-eqb (length (a ∷ b ∷ [])) 2 refl))
    enter_same (a ∷ b ∷ c ∷ w) e = refl

    leave_same : (q : ℕ) (w : List ℕ) → (nat_eq (length w) 2 ≡ true → m ≡ n) → left m q (two_symbols w) ≡ left n q (two_symbols w)
    leave_same q [] e = refl
    leave_same q (a ∷ []) e = refl
    leave_same q (a ∷ b ∷ []) e = ap (λ x. drawn_to (arrow x b q)) (e (eq-eqb (length (a ∷ b ∷ [])) 2 refl))
    leave_same q (a ∷ b ∷ c ∷ w) e = refl

    drawn_same : (kind : JobKind) (frame : Option ℕ) (q : ℕ) → (is_push r ≡ true → m ≡ n) → drawn kind frame m r q ≡ drawn kind frame n r q
    drawn_same PreStep frame q e = refl
    drawn_same PrePushControl frame q e = refl
    drawn_same PrePushOther frame q e = refl
    drawn_same PostStep frame q e = refl
    drawn_same PostPopMiddle frame q e = refl
    drawn_same PostPopOther frame q e = refl
    drawn_same PostEnter frame q e = enter_same r.right e
    drawn_same PostLeave frame q e = leave_same q r.right e
    drawn_same PostGlue frame q e = refl

    pub jobs_same : (kind : JobKind) (frame : Option ℕ) (t : Entry S W Map) (k : ℕ) → (is_push r ≡ true → m ≡ n) → rule_jobs kind frame m t k r ≡ rule_jobs kind frame n t k r
    jobs_same kind frame t k e = ap (jobs_drawn kind k r t) (drawn_same kind frame t.place.to e)

  -- What a row of rules does not list.
  module _ (kind : JobKind) (t : Entry S W Map) (k : ℕ) (r : Rule S W Map) where
    none_drawn : (d : Option Drawn) → is_from r.control (Symbol r.symbol) t ≡ false → jobs_drawn kind k r t d ≡ []
    none_drawn None other = refl
    none_drawn (Some d) other = cond-false (is_from r.control (Symbol r.symbol) t) (drawn_job kind k d t ∷ []) [] other

    head_only : (frame : Option ℕ) (middle g : ℕ) → t.place.label ≡ Symbol g → has_head t.place.from g r ≡ false → rule_jobs kind frame middle t k r ≡ []
    head_only frame middle g label other = none_drawn (drawn kind frame middle r t.place.to) (false_from_ne_true (is_from r.control (Symbol r.symbol) t) (λ h.
        let parts = and_parts (nat_eq t.place.from r.control) (same_label t.place.label (Symbol r.symbol)) h in
        not_both (has_head t.place.from g r) other (and_from (nat_eq r.control t.place.from) (nat_eq r.symbol g) (eq-eqb r.control t.place.from (sym (eqb-true t.place.from r.control parts.0)))
        (eq-eqb r.symbol g (sym (eqb-true g r.symbol (ap (λ l. same_label l (Symbol r.symbol)) (sym label) ∙ parts.1)))))))

    head_empty : (frame : Option ℕ) (middle : ℕ) → t.place.label ≡ Empty → rule_jobs kind frame middle t k r ≡ []
    head_empty frame middle label = none_drawn (drawn kind frame middle r t.place.to) (false_from_ne_true (is_from r.control (Symbol r.symbol) t) (λ h.
        not_both (same_label t.place.label (Symbol r.symbol)) (ap (λ l. same_label l (Symbol r.symbol)) label) (and_parts (nat_eq t.place.from r.control) (same_label t.place.label (Symbol r.symbol)) h).1))

    by_label : (frame : Option ℕ) (middle : ℕ) (l : Label) → t.place.label ≡ l → fires_on t.place.from l r ≡ false → rule_jobs kind frame middle t k r ≡ []
    by_label frame middle (Symbol g) label other = head_only frame middle g label other
    by_label frame middle Empty label other = head_empty frame middle label

    pub fires_only : (frame : Option ℕ) (middle : ℕ) → fires_on t.place.from t.place.label r ≡ false → rule_jobs kind frame middle t k r ≡ []
    fires_only frame middle other = by_label frame middle t.place.label refl other

  -- the next of the rules that fire where a transition begins
  pub fires_goes_on : (rs : List (Rule S W Map)) (k : ℕ) (r : Rule S W Map) → slice_get rs k ≡ Some r → (from : ℕ) (l : Label) → fires_on from l r ≡ true
      → next_with_head k rs ≡ index_from (fires_on from l) (k + 1) rs
  fires_goes_on rs k r there from (Symbol g) h = with_head_goes_on rs k r there from g h
  fires_goes_on rs k r there from Empty h = cc

  -- what reads nothing fires no rule
  pub none_fires : (from : ℕ) (rs : List (Rule S W Map)) → None ≡ index_where (fires_on from Empty) rs
  none_fires from [] = refl
  none_fires from (r ∷ rs) = ap (option_map (λ k. k + 1)) (none_fires from rs)

  -- of the two kinds of pops a transition draws one
  module _ (base : ℕ) (p : Pushdown S W Map) (t : Entry S W Map) where
    none_of : (kind : JobKind) → ((k : ℕ) (r : Rule S W Map) → of_kind base p kind t k r ≡ []) → kind_jobs base p kind t ≡ []
    none_of kind none = by_rule_is (of_kind base p kind t) 0 p.rules ∙ by_number-none (of_kind base p kind t) none 0 p.rules

    pub pops_are : (frame : Option ℕ) → frame ≡ frame_of base p.rules t.place.to → kind_jobs base p (kind_of (pops_of frame)) t ≡ kind_jobs base p PostPopMiddle t ++ kind_jobs base p PostPopOther t
    pops_are None e = sym (ap (λ ys. ys ++ kind_jobs base p PostPopOther t) (none_of PostPopMiddle (λ k r. sym (ap (λ o. rule_jobs PostPopMiddle o (middle_of base p.rules k) t k r) e))))
    pops_are (Some m) e = sym (ap (λ ys. kind_jobs base p PostPopMiddle t ++ ys) (none_of PostPopOther (λ k r. sym (ap (λ o. rule_jobs PostPopOther o (middle_of base p.rules k) t k r) e))) ∙ append-nil (kind_jobs base p PostPopMiddle t))

reads_nothing : (l : Label) → same_label l Empty ≡ true → reads_symbol l ≡ false
reads_nothing (Symbol g) h = cc
reads_nothing Empty h = refl

is_empty_label : (l : Label) → same_label l Empty ≡ true → l ≡ Empty
is_empty_label (Symbol g) h = cc
is_empty_label Empty h = refl

module _ {S W Map : Type 0} where
  -- what may not meet does not
  pub glue_only : (t u : Entry S W Map) → may_glue t.place u ≡ false → glue_jobs t u ≡ []
  glue_only t u other = ap₂ (λ xs ys. xs ++ ys)
      (cond-false (are_glued t.place u.place) (glue_job t u ∷ []) [] (false_from_ne_true (are_glued t.place u.place) (λ h.
      let parts = and_parts (reads_symbol t.place.label) (same_label u.place.label Empty && nat_eq u.place.to t.place.from) h in
      let more = and_parts (same_label u.place.label Empty) (nat_eq u.place.to t.place.from) parts.1 in
      not_both (may_glue t.place u) other (cond-true (reads_symbol t.place.label) (is_empty_into t.place.from u) (is_out_of t.place.to u) parts.0
      ∙ and_from (nat_eq u.place.to t.place.from) (same_label u.place.label Empty) more.1 more.0))))
      (cond-false (are_glued u.place t.place) (glue_job u t ∷ []) [] (false_from_ne_true (are_glued u.place t.place) (λ h.
      let parts = and_parts (reads_symbol u.place.label) (same_label t.place.label Empty && nat_eq t.place.to u.place.from) h in
      let more = and_parts (same_label t.place.label Empty) (nat_eq t.place.to u.place.from) parts.1 in
      not_both (may_glue t.place u) other (cond-false (reads_symbol t.place.label) (is_empty_into t.place.from u) (is_out_of t.place.to u) (reads_nothing t.place.label more.0)
      ∙ eq-eqb u.place.from t.place.to (sym (eqb-true t.place.to u.place.from more.1))))))

  module _ (x : Place) (i : ℕ) (ts : List (Entry S W Map)) (next : Option ℕ) (at : index_from (may_glue x) i ts ≡ Some i) where
    found_at : IsFound (may_glue x) ts i
    found_at = (index_found (may_glue x) i ts i at).0

    pub next_empty : reads_symbol x.label ≡ true
        → ((u : Entry S W Map) → slice_get ts i ≡ Some u → u.place.label ≡ Empty → next ≡ index_from (is_empty_into u.place.to) (i + 1) ts)
        → next ≡ index_from (may_glue x) (i + 1) ts
    next_empty reads goes =
        let u = found_at.item in
        let parts = and_parts (nat_eq u.place.to x.from) (same_label u.place.label Empty) (sym (cond-true (reads_symbol x.label) (is_empty_into x.from u) (is_out_of x.to u) reads) ∙ found_at.passes) in
        goes u found_at.there (is_empty_label u.place.label parts.1)
        ∙ ap (λ q. index_from (is_empty_into {S = S} {W = W} {Map = Map} q) (i + 1) ts) (eqb-true u.place.to x.from parts.0)
        ∙ ap (λ b. index_from (λ (v : Entry S W Map). cond b (is_empty_into x.from v) (is_out_of x.to v)) (i + 1) ts) (sym reads)

    pub next_out : reads_symbol x.label ≡ false
        → ((u : Entry S W Map) → slice_get ts i ≡ Some u → next ≡ index_from (is_out_of u.place.from) (i + 1) ts)
        → next ≡ index_from (may_glue x) (i + 1) ts
    next_out reads goes =
        let u = found_at.item in
        let here = sym (cond-false (reads_symbol x.label) (is_empty_into x.from u) (is_out_of x.to u) reads) ∙ found_at.passes in
        goes u found_at.there
        ∙ ap (λ q. index_from (is_out_of {S = S} {W = W} {Map = Map} q) (i + 1) ts) (eqb-true u.place.from x.to here)
        ∙ ap (λ b. index_from (λ (v : Entry S W Map). cond b (is_empty_into x.from v) (is_out_of x.to v)) (i + 1) ts) (sym reads)
