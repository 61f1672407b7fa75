use Rattle.std.proofs.Common.{◌≡◌, ◌<◌, length, get_or, refl, sym, ap, ◌∙◌, subst, arith}
use Rattle.std.specs.Prelude.{slice_get}
use Rattle.std.proofs.lemmas.List.{length-map}
use Rattle.std.proofs.lemmas.Option.{slice_get_read}
use Rattle.semiring_laws.specs.Semiring.{Operations}
use Rattle.saturation_laws.specs.States.{weight_of}
use Rattle.saturation_laws.specs.Openings.{changed_weight}
use Rattle.saturation_core.specs.DoneValue.{DoneValue}
use Rattle.saturation_core.specs.Goals.{FitsGoal}
use Rattle.saturation_core.proofs.SeenLemmas.{sums_long, sum_at}
use Rattle.saturation_core.proofs.hand.Done.worked.Goals as goal

worths_long : (g : _) (c : goal.After-as_slice-4 g) → length c.self.inside.candidates ≡ length c.self.inside.jobs
worths_long g c = ap length c.self.invariant.1 ∙ length-map c.self.inside.jobs (g.D.Direction.way.tables c.self.inside.direction c.self.inside.system.now).candidate

within : (g : _) (c : goal.After-as_slice-4 g) → c.args.k < length c.as_slice-4.result.now
within g c =
    let s = g.S.Semiring.operations c.self.inside.system.now.semiring in
    let k : c.args.k < length c.args.self.now.jobs = c.requires in
    let jobs = ap (λ (v : DoneValue _ _ _ _). length v.jobs) c.self.view_is in
    let sums = ap length (c.as_slice-4.ensures ∙ c.self.invariant.3) ∙ sums_long s c.self.inside.goals c.self.inside.candidates (c.self.invariant.2.long ∙ sym (worths_long g c)) in
    omega (arith, k, jobs, sums, worths_long g c)

pub offset_bounds-as_slice-k-4 : goal.offset_bounds-as_slice-k-4
offset_bounds-as_slice-k-4 g c = omega (arith, within g c)

pub bounds-as_slice-k-4 : goal.bounds-as_slice-k-4
bounds-as_slice-k-4 g c = within g c

pub returns : goal.returns
returns g c =
    let s = g.S.Semiring.operations c.self.inside.system.now.semiring in
    let v = c.self.inside in
    let k = c.args.k in
    let at : k < length v.jobs = let asked : k < length c.args.self.now.jobs = c.requires in let jobs = ap (λ (d : DoneValue _ _ _ _). length d.jobs) c.self.view_is in omega (arith, asked, jobs) in
    let long : length v.candidates ≡ length v.jobs = worths_long g c.before in
    let in_sums : k < length v.sums = let i = within g c.before in let e = ap length c.as_slice-4.ensures in omega (arith, i, e) in
    let job = slice_get_read v.jobs (length v.jobs) k c.index-as_slice-k.result refl at (c.index-as_slice-k.is ∙ ap (λ js. get_or js k c.index-as_slice-k.result) (c.as_slice.ensures ∙ c.as_list.ensures)) in
    let worth = slice_get_read v.candidates (length v.jobs) k c.index-as_slice-k-2.result (sym long) at (c.index-as_slice-k-2.is ∙ ap (λ ws. get_or ws k c.index-as_slice-k-2.result) c.as_slice-2.ensures) in
    let read = c.index-as_slice-k-3.is ∙ ap (λ gs. get_or gs k c.index-as_slice-k-3.result) c.as_slice-3.ensures in
    let seen = slice_get_read v.goals (length v.jobs) k c.index-as_slice-k-3.result (sym c.self.invariant.2.long) at read in
    let sum = slice_get_read v.sums (length v.sums) k c.index-as_slice-k-4.result refl in_sums (c.index-as_slice-k-4.is ∙ ap (λ os. get_or os k c.index-as_slice-k-4.result) c.as_slice-4.ensures) in
    let fits = subst (FitsGoal s) (sym read) (c.self.invariant.2.seen k c.index-as_slice-k-3.result (omega (arith, at, c.self.invariant.2.long))) in
    let made = sum_at s v.goals v.candidates k c.index-as_slice-k-3.result c.index-as_slice-k-2.result c.index-as_slice-k-4.result seen worth (ap (λ os. slice_get os k) (sym c.self.invariant.3) ∙ sum) in
    let operations : DoneValue _ _ _ _ → Operations _ _ = λ d. g.S.Semiring.operations d.system.semiring in
    record {
      job = ap (λ (d : DoneValue _ _ _ _). slice_get d.jobs k) (sym c.self.view_is) ∙ job;
      worth = ap (λ (d : DoneValue _ _ _ _). slice_get d.candidates k) (sym c.self.view_is) ∙ worth;
      goal = ap (λ (d : DoneValue _ _ _ _). slice_get d.goals k) (sym c.self.view_is) ∙ seen;
      fits = subst (λ d. FitsGoal (operations d) c.index-as_slice-k-3.result) c.self.view_is fits;
      sum = subst (λ d. c.index-as_slice-k-4.result ≡ changed_weight (operations d) (weight_of (operations d) c.index-as_slice-k-3.result) c.index-as_slice-k-2.result) c.self.view_is made;
    }
