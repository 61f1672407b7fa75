-- The laws of the forward direction.
use Rattle.std.proofs.Common.{◌≡◌, inl, inr, ℕ, ◌≤◌, true, refl, sym, ap, ap₂, ◌∙◌, subst, arith}
use Rattle.std.specs.Prelude.{Option, None, Some, IfSome, IsTrue, is_some, ◌||◌, slice_get}
use Rattle.semiring_laws.specs.Semiring.{Operations, IsSemiring}
use Rattle.weighted_automata.specs.declared.transitions.Entry.{Entry}
use Rattle.witness_graph.specs.declared.node.Side.TheVariants.{Post}
use Rattle.pushdown_rules.specs.Pushdown.{Pushdown, IsSystem}
use Rattle.pushdown_rules.specs.Values.{value_of}
use Rattle.saturation_laws.specs.declared.opening.Opening.{Opening}
use Rattle.saturation_laws.specs.declared.job.JobKind.{JobKind}
use Rattle.saturation_laws.specs.declared.job.JobKind.TheVariants.{PreStep, PrePushControl, PrePushOther, PostStep, PostPopMiddle, PostPopOther, PostEnter, PostLeave, PostGlue}
use Rattle.saturation_laws.specs.declared.job.Job.{Job}
use Rattle.saturation_laws.specs.Jobs.{row_of, HasInput, named_rule, named_first}
use Rattle.saturation_laws.specs.Openings.{opening_state}
use Rattle.saturation_laws.specs.Directions.{IsDirection, HaveSameCandidates}
use Rattle.saturation_laws.specs.Paths.{HasSums}
use Rattle.poststar_laws.specs.Middles.{base_of}
use Rattle.poststar_laws.specs.declared.drawn.Drawn.{Drawn}
use Rattle.poststar_laws.specs.Rows.{post_rows, rule_named, worth_by}
use Rattle.poststar_laws.specs.Jobs.{drawn_job, post_tables}
use Rattle.poststar_laws.specs.Reading.{PostRun}
use Rattle.poststar_laws.specs.Fitting.{fits_post, post_places}
use Rattle.poststar_laws.proofs.RowTestLemmas.{row_says}
use Rattle.poststar_laws.proofs.TableLemmas.{post_sound, post_opens}
use Rattle.poststar_laws.proofs.JobLemmas.{jobs_are, jobs_all}
use Rattle.poststar_laws.proofs.PlaceLemmas.{Fitting, fitting, post_reaches}
use Rattle.poststar_laws.proofs.ClosingLemmas.{post_sums}

module _ {S W Map : Type 0} (base : ℕ) (p : Pushdown S W Map) where
  -- a row has an input
  pub post_asks : (j : Job S W Map) → post_rows base p (row_of j) ≡ true → (t : Entry S W Map) × HasInput j t
  post_asks j row = elim (row_says base p j row) [
    | inl is ↦ (is.input, inl (ap (λ (z : Job S W Map). z.first) is.is))
    | inr is ↦ (is.deep, inl (ap (λ (z : Job S W Map). z.first) is.is))
  ]

  abbrev Names : Job S W Map → Type 0
  Names j = is_some (named_rule j) || (is_some (named_first j) || is_some j.second) ≡ true

  drawn_names : (kind : JobKind) (k : ℕ) (d : Drawn) (t : Entry S W Map) → Names (drawn_job kind k d t)
  drawn_names PreStep k d t = refl
  drawn_names PrePushControl k d t = refl
  drawn_names PrePushOther k d t = refl
  drawn_names PostStep k d t = refl
  drawn_names PostPopMiddle k d t = refl
  drawn_names PostPopOther k d t = refl
  drawn_names PostEnter k d t = refl
  drawn_names PostLeave k d t = refl
  drawn_names PostGlue k d t = refl

  -- and its node names a rule or an input
  pub post_names : (j : Job S W Map) → post_rows base p (row_of j) ≡ true → Names j
  post_names j row = let P : Job S W Map → Type 0 = Names in elim (row_says base p j row) [
    | inl is ↦ subst P (sym is.is) (drawn_names is.kind is.number is.makes is.input)
    | inr is ↦ subst P (sym is.is) refl
  ]

module _ {S W Map : Type 0} {operations : S → Operations W Map} {p : Pushdown S W Map} (valid : IsSystem operations p) (laws : IsSemiring (operations p.semiring))
    (items : ℕ) (o : Opening) (fits : IsTrue (fits_post items p o)) where
  abbrev base : ℕ
  base = base_of items p

  high : p.controls ≤ base
  high = omega arith

  is : Fitting items p o
  is = fitting items p o fits

  -- the laws of a direction
  pub post_laws : IsDirection (operations p.semiring) p o (post_tables base p (operations p.semiring)) (post_places items p) (PostRun p o.edges base)
  post_laws =
      let s = operations p.semiring in
      record {
        sound = λ j xs ys row first second. post_sound valid laws o.edges base high is.edges j xs ys row first second;
        opens = post_opens valid laws o.edges base high is.edges;
        pops = λ side k r there none. cc;
        asks = λ j row. post_asks base p j row;
        names = λ j row. post_names base p j row;
        reaches = λ j row inputs. post_reaches valid items o.edges is.edges j row inputs;
        jobs_are = λ ts t j distinct here listed. jobs_are s base p ts t distinct here j listed;
        jobs_all = λ ts t j distinct here drawn has. jobs_all s base p ts t distinct here j drawn has;
      }

  -- the two laws on sums
  pub post_has_sums : HasSums (operations p.semiring) (value_of (operations p.semiring) p) p o Post (post_tables base p (operations p.semiring))
      (opening_state (operations p.semiring) Post p o.edges).transitions (PostRun p o.edges base)
  post_has_sums = post_sums valid laws o base high is.edges is.finals

module _ {S W Map : Type 0} (p q : Pushdown S W Map) where
  one_rule : (n : Option ℕ) → IfSome n (λ k. slice_get p.rules k ≡ slice_get q.rules k) → rule_named p.rules n ≡ rule_named q.rules n
  one_rule None _ = refl
  one_rule (Some k) e = e

-- a candidate depends on the semiring and the rules that the job names
pub same_candidates : {S W Map : Type 0} (operations : S → Operations W Map) (a b : ℕ) (p q : Pushdown S W Map)
    → HaveSameCandidates (post_tables a p (operations p.semiring)) (post_tables b q (operations q.semiring)) p q
same_candidates operations a b p q j side agree =
    ap (λ x. worth_by (operations x) (rule_named p.rules j.frame) (rule_named p.rules j.rule) j) agree.semiring
    ∙ ap₂ (λ f r. worth_by (operations q.semiring) f r j) (one_rule p q j.frame agree.frame) (one_rule p q j.rule agree.rule)
