-- A small system on which the backward definitions are worked out.
use Rattle.std.proofs.Common.{◌≡◌, inl, arith, ℕ, ◌+◌, true, false, List, [], ◌∷◌, ◌++◌, refl}
use Rattle.std.specs.Prelude.{Option, None, Some}
use Rattle.semiring_laws.specs.Semiring.{Operations}
use Rattle.weighted_automata.specs.declared.place.Place.{Place}
use Rattle.weighted_automata.specs.declared.place.Label.TheVariants.{Empty}
use Rattle.weighted_automata.specs.declared.transitions.Entry.{Entry}
use Rattle.weighted_automata.specs.Places.{same_place}
use Rattle.pushdown_rules.specs.declared.rule.Rule.{Rule}
use Rattle.pushdown_rules.specs.Configuration.{Configuration}
use Rattle.pushdown_rules.specs.Pushdown.{Pushdown}
use Rattle.saturation_laws.specs.declared.job.JobKind.TheVariants.{PrePushControl, PrePushOther}
use Rattle.saturation_laws.specs.declared.opening.Opening.{Opening}
use Rattle.saturation_laws.specs.Jobs.{row_of}
use Rattle.prestar_laws.specs.Rows.{pre_rows, pre_candidate}
use Rattle.prestar_laws.specs.Jobs.{step_job, push_job, pre_jobs}
use Rattle.prestar_laws.specs.Fitting.{fits_pre, state_count, pre_places}
use Rattle.prestar_laws.specs.Reading.{PreRun}
use Rattle.direction_parts.specs.Places.{arrow}

-- Weights that tell how a value was put together: extend joins them, and the return map h sets 10 + h before and
-- 20 + h behind.
abbrev told : Operations (List ℕ) ℕ
told = record {
  zero = [];
  one = [];
  combine = λ a b. a;
  extend = ◌++◌;
  after = λ h w. (10 + h) ∷ w ++ (20 + h) ∷ [];
  plain = 0;
  same = λ a b. true;
  fits = λ w. true;
  fits_map = λ h. true;
  rank = λ w. 0;
  top_rank = 0;
}

abbrev rule : ℕ → ℕ → ℕ → List ℕ → ℕ → Option ℕ → Rule ℕ (List ℕ) ℕ
rule control symbol to right weight map = record { control = control; symbol = symbol; to = to; right = right; weight = weight ∷ []; map = map }

abbrev step : Rule ℕ (List ℕ) ℕ
step = rule 0 0 1 (1 ∷ []) 1 None

abbrev push : Rule ℕ (List ℕ) ℕ
push = rule 0 1 1 (0 ∷ 1 ∷ []) 2 (Some 5)

abbrev pop : Rule ℕ (List ℕ) ℕ
pop = rule 1 0 1 [] 3 None

-- leaves one symbol twice
abbrev double : Rule ℕ (List ℕ) ℕ
double = rule 1 0 0 (0 ∷ 0 ∷ []) 4 (Some 6)

abbrev system : Pushdown ℕ (List ℕ) ℕ
system = record { semiring = 0; controls = 2; symbols = 2; rules = step ∷ push ∷ pop ∷ double ∷ [] }

abbrev entry : Place → ℕ → ℕ → Entry ℕ (List ℕ) ℕ
entry x weight node = record { place = x; weight = weight ∷ []; node = node }

-- the callee comes to a control, the caller goes on from there, and a callee stays on an item
abbrev callee : Entry ℕ (List ℕ) ℕ
callee = entry (arrow 1 0 1) 7 1

abbrev caller : Entry ℕ (List ℕ) ℕ
caller = entry (arrow 1 1 2) 8 2

abbrev staying : Entry ℕ (List ℕ) ℕ
staying = entry (arrow 1 0 2) 9 3

abbrev below : Entry ℕ (List ℕ) ℕ
below = entry (arrow 2 1 3) 6 4

abbrev loop : Entry ℕ (List ℕ) ℕ
loop = entry (arrow 0 0 0) 5 5

-- a step first, and then the push whose second input it is
pub jobs_of_the_caller : pre_jobs system (callee ∷ caller ∷ []) caller ≡ step_job 0 step caller ∷ push_job PrePushControl 1 push callee caller ∷ []
unfolding same_place
jobs_of_the_caller = refl

-- nothing goes on from a state that no transition leaves
pub jobs_without_a_partner : pre_jobs system (callee ∷ staying ∷ []) callee ≡ []
unfolding same_place
jobs_without_a_partner = refl

pub jobs_on_an_item : pre_jobs system (below ∷ staying ∷ callee ∷ []) staying ≡ push_job PrePushOther 1 push staying below ∷ []
unfolding same_place
jobs_on_an_item = refl

-- a transition that is both inputs gives one job
pub jobs_of_a_loop : pre_jobs system (loop ∷ []) loop ≡ push_job PrePushControl 3 double loop loop ∷ []
unfolding same_place
jobs_of_a_loop = refl

-- what they are worth: the rule first, the callee within the return map, and then the caller
pub worth_of_a_step : pre_candidate told system (step_job 0 step caller) ≡ 1 ∷ 8 ∷ []
worth_of_a_step = refl

pub worth_of_a_call : pre_candidate told system (push_job PrePushControl 1 push callee caller) ≡ 15 ∷ 2 ∷ 7 ∷ 25 ∷ 8 ∷ []
worth_of_a_call = refl

pub worth_on_an_item : pre_candidate told system (push_job PrePushOther 1 push staying below) ≡ 2 ∷ 9 ∷ 6 ∷ []
worth_on_an_item = refl

-- rows, and jobs that are none
pub is_a_step : pre_rows system (row_of (step_job 0 step caller)) ≡ true
unfolding same_place
is_a_step = refl

pub is_a_call : pre_rows system (row_of (push_job PrePushControl 1 push callee caller)) ≡ true
unfolding same_place
is_a_call = refl

pub stays_on_an_item : pre_rows system (row_of (push_job PrePushOther 1 push staying below)) ≡ true
unfolding same_place
stays_on_an_item = refl

pub goes_on_in_a_control : pre_rows system (row_of (push_job PrePushOther 1 push callee caller)) ≡ false
unfolding same_place
goes_on_in_a_control = refl

pub inputs_in_the_other_order : pre_rows system (row_of (push_job PrePushControl 1 push caller callee)) ≡ false
unfolding same_place
inputs_in_the_other_order = refl

pub another_rule : pre_rows system (row_of (step_job 2 pop caller)) ≡ false
unfolding same_place
another_rule = refl

pub no_such_rule : pre_rows system (row_of (step_job 4 step caller)) ≡ false
unfolding same_place
no_such_rule = refl

-- openings
abbrev opening : List Place → List ℕ → Opening
opening edges finals = record { edges = edges; finals = finals }

pub fits_items : fits_pre system (opening (arrow 1 1 2 ∷ arrow 2 0 3 ∷ []) (3 ∷ [])) ≡ true
fits_items = refl

pub leads_to_a_control : fits_pre system (opening (arrow 1 1 2 ∷ arrow 2 0 1 ∷ []) (3 ∷ [])) ≡ false
leads_to_a_control = refl

pub reads_nothing : fits_pre system (opening (record { from = 1; label = Empty; to = 2 } ∷ []) (2 ∷ [])) ≡ false
reads_nothing = refl

pub states_to_the_last_edge : state_count 2 (opening (arrow 1 1 2 ∷ arrow 2 0 3 ∷ []) (2 ∷ [])) ≡ 4
states_to_the_last_edge = refl

pub states_to_the_last_final : state_count 2 (opening [] (5 ∷ 2 ∷ [])) ≡ 6
states_to_the_last_final = refl

pub places_of_one_item : pre_places (record system { symbols = 1 }) (opening (arrow 1 0 2 ∷ []) (2 ∷ []))
    ≡ arrow 0 0 0 ∷ arrow 0 0 1 ∷ arrow 0 0 2 ∷ arrow 1 0 0 ∷ arrow 1 0 1 ∷ arrow 1 0 2 ∷ []
places_of_one_item = refl

abbrev at : ℕ → List ℕ → Configuration
at control stack = record { control = control; stack = stack }

-- the push, the callee's pop, and then the caller's symbol is read
pub run_of_a_call : PreRun system (arrow 1 1 2 ∷ []) (arrow 0 1 2) (1 ∷ 2 ∷ [])
run_of_a_call = inl (omega arith, (at 1 (1 ∷ []), (at 1 (0 ∷ 1 ∷ []), refl, (at 1 (1 ∷ []), refl, refl)), (2, inl refl, refl)))

-- a pop comes to a control with nothing to read
pub run_of_a_pop : PreRun system [] (arrow 1 0 1) (2 ∷ [])
run_of_a_pop = inl (omega arith, (at 1 [], (at 1 [], refl, refl), refl))
