-- A small system on which the forward definitions are worked out.
use Rattle.std.proofs.Common.{◌≡◌, inl, inr, arith, ℕ, ◌+◌, ◌*◌, true, false, List, [], ◌∷◌, ◌++◌, length, refl}
use Rattle.std.specs.Prelude.{Option, None, Some}
use Rattle.semiring_laws.specs.Semiring.{Operations}
use Rattle.weighted_automata.specs.declared.place.Place.{Place}
use Rattle.weighted_automata.specs.declared.transitions.Entry.{Entry}
use Rattle.weighted_automata.specs.Places.{same_place}
use Rattle.pushdown_rules.specs.declared.rule.Rule.{Rule}
use Rattle.pushdown_rules.specs.Configuration.{at_stack}
use Rattle.pushdown_rules.specs.Pushdown.{Pushdown}
use Rattle.saturation_laws.specs.declared.job.JobKind.{JobKind}
use Rattle.saturation_laws.specs.declared.job.JobKind.TheVariants.{PostStep, PostPopMiddle, PostPopOther, PostEnter, PostLeave}
use Rattle.saturation_laws.specs.declared.job.Job.{Job}
use Rattle.saturation_laws.specs.declared.opening.Opening.{Opening}
use Rattle.saturation_laws.specs.Jobs.{row_of}
use Rattle.direction_parts.specs.Places.{arrow}
use Rattle.poststar_laws.specs.declared.drawn.Drawn.{Drawn}
use Rattle.poststar_laws.specs.Middles.{middle_of, frame_of, base_of}
use Rattle.poststar_laws.specs.Rows.{skip, post_rows, post_candidate}
use Rattle.poststar_laws.specs.Jobs.{drawn_job, glue_job, post_jobs}
use Rattle.poststar_laws.specs.Fitting.{fits_post, post_places}
use Rattle.poststar_laws.specs.Reading.{IsMiddle, PostRun}

-- Weights that tell how a value was put together: extend joins them, and the return map h sets 10 + h before and
-- 20 + h behind.
abbrev told : Operations (List ℕ) ℕ
told = record {
  zero = [];
  one = [];
  combine = λ a b. a;
  extend = ◌++◌;
  after = λ h w. (10 + h) ∷ w ++ (20 + h) ∷ [];
  plain = 0;
  same = λ a b. true;
  fits = λ w. true;
  fits_map = λ h. true;
  rank = λ w. 0;
  top_rank = 0;
}

abbrev rule : ℕ → ℕ → ℕ → List ℕ → ℕ → Option ℕ → Rule ℕ (List ℕ) ℕ
rule control symbol to right weight map = record { control = control; symbol = symbol; to = to; right = right; weight = weight ∷ []; map = map }

abbrev step : Rule ℕ (List ℕ) ℕ
step = rule 0 1 1 (1 ∷ []) 1 None

-- two push rules with one head
abbrev push : Rule ℕ (List ℕ) ℕ
push = rule 0 0 1 (0 ∷ 1 ∷ []) 2 (Some 5)

abbrev other : Rule ℕ (List ℕ) ℕ
other = rule 0 0 1 (0 ∷ 1 ∷ []) 4 (Some 6)

abbrev pop : Rule ℕ (List ℕ) ℕ
pop = rule 1 0 0 [] 3 None

abbrev system : Pushdown ℕ (List ℕ) ℕ
system = record { semiring = 0; controls = 2; symbols = 2; rules = step ∷ push ∷ pop ∷ other ∷ [] }

-- two items, which are the states 2 and 3, and then the middles
abbrev base : ℕ
base = base_of 2 system

pub middle_of_the_first : middle_of base system.rules 1 ≡ 4
middle_of_the_first = refl

pub middle_of_the_second : middle_of base system.rules 3 ≡ 5
middle_of_the_second = refl

pub frame_of_the_first : frame_of base system.rules 4 ≡ Some 1
frame_of_the_first = refl

pub frame_of_the_second : frame_of base system.rules 5 ≡ Some 3
frame_of_the_second = refl

pub no_frame_of_an_item : frame_of base system.rules 3 ≡ None
no_frame_of_an_item = refl

pub no_frame_behind_the_middles : frame_of base system.rules 6 ≡ None
no_frame_behind_the_middles = refl

abbrev entry : Place → ℕ → ℕ → Entry ℕ (List ℕ) ℕ
entry x weight node = record { place = x; weight = weight ∷ []; node = node }

-- the head of both push rules, to an item; a callee at its end, to each middle; and at its end with no call
abbrev head : Entry ℕ (List ℕ) ℕ
head = entry (arrow 0 0 2) 7 1

abbrev callee : Entry ℕ (List ℕ) ℕ
callee = entry (arrow 1 0 4) 8 2

abbrev other_callee : Entry ℕ (List ℕ) ℕ
other_callee = entry (arrow 1 0 5) 8 3

abbrev last : Entry ℕ (List ℕ) ℕ
last = entry (arrow 1 0 3) 9 4

-- what is read after the first call returned, and the return
abbrev waiting : Entry ℕ (List ℕ) ℕ
waiting = entry (arrow 4 1 2) 7 5

abbrev summary : Entry ℕ (List ℕ) ℕ
summary = entry (skip 0 4) 6 6

abbrev drawn : JobKind → ℕ → Option ℕ → Place → Entry ℕ (List ℕ) ℕ → Job ℕ (List ℕ) ℕ
drawn kind k frame goal t = let d : Drawn = record { frame = frame; goal = goal } in drawn_job kind k d t

abbrev enter : Job ℕ (List ℕ) ℕ
enter = drawn PostEnter 1 None (arrow 1 0 4) head

abbrev leave : Job ℕ (List ℕ) ℕ
leave = drawn PostLeave 1 None (arrow 4 1 2) head

abbrev returns : Job ℕ (List ℕ) ℕ
returns = drawn PostPopMiddle 2 (Some 1) (skip 0 4) callee

abbrev other_returns : Job ℕ (List ℕ) ℕ
other_returns = drawn PostPopMiddle 2 (Some 3) (skip 0 5) other_callee

abbrev ends : Job ℕ (List ℕ) ℕ
ends = drawn PostPopOther 2 None (skip 0 3) last

-- each push rule has a middle of its own, and all entries come before what is left
pub jobs_of_a_head : post_jobs base system (head ∷ []) head
    ≡ enter ∷ drawn PostEnter 3 None (arrow 1 0 5) head ∷ leave ∷ drawn PostLeave 3 None (arrow 5 1 2) head ∷ []
unfolding same_place
jobs_of_a_head = refl

pub jobs_of_a_return : post_jobs base system (callee ∷ []) callee ≡ returns ∷ []
unfolding same_place
jobs_of_a_return = refl

pub jobs_of_the_other_return : post_jobs base system (other_callee ∷ []) other_callee ≡ other_returns ∷ []
unfolding same_place
jobs_of_the_other_return = refl

pub jobs_of_a_pop_to_an_item : post_jobs base system (last ∷ []) last ≡ ends ∷ []
unfolding same_place
jobs_of_a_pop_to_an_item = refl

-- a glue is found from either side
pub jobs_of_a_summary : post_jobs base system (head ∷ waiting ∷ summary ∷ []) summary ≡ glue_job waiting summary ∷ []
unfolding same_place
jobs_of_a_summary = refl

pub jobs_of_what_waits : post_jobs base system (head ∷ waiting ∷ summary ∷ []) waiting ≡ glue_job waiting summary ∷ []
unfolding same_place
jobs_of_what_waits = refl

-- an empty transition is met at its end alone
pub jobs_at_its_beginning : post_jobs base system (entry (arrow 0 1 2) 1 7 ∷ summary ∷ []) summary ≡ []
unfolding same_place
jobs_at_its_beginning = refl

-- what they are worth: what came before, and then the rule
pub worth_of_a_step : post_candidate told system (drawn PostStep 0 None (arrow 1 1 2) (entry (arrow 0 1 2) 9 8)) ≡ 9 ∷ 1 ∷ []
worth_of_a_step = refl

pub worth_of_a_return : post_candidate told system returns ≡ 15 ∷ 8 ∷ 3 ∷ 25 ∷ []
worth_of_a_return = refl

pub worth_of_the_other_return : post_candidate told system other_returns ≡ 16 ∷ 8 ∷ 3 ∷ 26 ∷ []
worth_of_the_other_return = refl

pub worth_of_a_pop_to_an_item : post_candidate told system ends ≡ 9 ∷ 3 ∷ []
worth_of_a_pop_to_an_item = refl

-- a call begins with its own rule, and what came before waits below
pub worth_of_an_entry : post_candidate told system enter ≡ 2 ∷ []
worth_of_an_entry = refl

pub worth_of_what_is_left : post_candidate told system leave ≡ 7 ∷ []
worth_of_what_is_left = refl

-- what waited comes before what returned to it
pub worth_of_a_glue : post_candidate told system (glue_job waiting summary) ≡ 7 ∷ 6 ∷ []
worth_of_a_glue = refl

-- rows, and jobs that are none
pub is_a_return : post_rows base system (row_of returns) ≡ true
unfolding same_place
is_a_return = refl

pub is_a_glue : post_rows base system (row_of (glue_job waiting summary)) ≡ true
unfolding same_place
is_a_glue = refl

pub returns_to_the_wrong_push : post_rows base system (row_of (drawn PostPopMiddle 2 (Some 3) (skip 0 4) callee)) ≡ false
unfolding same_place
returns_to_the_wrong_push = refl

pub a_return_without_its_frame : post_rows base system (row_of (drawn PostPopOther 2 None (skip 0 4) callee)) ≡ false
unfolding same_place
a_return_without_its_frame = refl

pub enters_the_wrong_middle : post_rows base system (row_of (drawn PostEnter 1 None (arrow 1 0 5) head)) ≡ false
unfolding same_place
enters_the_wrong_middle = refl

pub inputs_in_the_other_order : post_rows base system (row_of (glue_job summary waiting)) ≡ false
unfolding same_place
inputs_in_the_other_order = refl

-- openings
abbrev opening : List Place → List ℕ → Opening
opening edges finals = record { edges = edges; finals = finals }

pub fits_two_items : fits_post 2 system (opening (arrow 0 0 2 ∷ arrow 2 1 3 ∷ []) (3 ∷ [])) ≡ true
fits_two_items = refl

pub leads_to_a_middle : fits_post 1 system (opening (arrow 0 0 2 ∷ arrow 2 1 3 ∷ []) (2 ∷ [])) ≡ false
leads_to_a_middle = refl

pub leads_to_a_control : fits_post 2 system (opening (arrow 0 0 1 ∷ []) (2 ∷ [])) ≡ false
leads_to_a_control = refl

pub reads_nothing : fits_post 2 system (opening (skip 0 2 ∷ []) (2 ∷ [])) ≡ false
reads_nothing = refl

pub no_such_symbol : fits_post 2 system (opening (arrow 0 2 2 ∷ []) (2 ∷ [])) ≡ false
no_such_symbol = refl

pub more_items_than_a_pattern_has : fits_post 1001 system (opening [] []) ≡ false
more_items_than_a_pattern_has = refl

-- 2 controls, 2 symbols or nothing, 2 items and 2 middles; and what waits at the 2 middles
pub places_are_so_many : length (post_places 2 system) ≡ 2 * 3 * 4 + 2 * 4
places_are_so_many = refl

pub places_of_one_control : post_places 0 (record system { controls = 1; symbols = 1; rules = push ∷ [] })
    ≡ skip 0 1 ∷ arrow 0 0 1 ∷ arrow 1 1 1 ∷ []
places_of_one_control = refl

abbrev edges : List Place
edges = arrow 0 0 2 ∷ []

-- the empty run to what the opening reads, a call from there to its callee, and the callee's return
pub run_of_an_edge : PostRun system edges base (arrow 0 0 2) []
run_of_an_edge = inl (omega arith, inl (record { item = omega arith; last = omega arith; from = at_stack 0 (0 ∷ []); low = omega arith; reads = (2, inl refl, refl); goes = refl }))

abbrev first_push : IsMiddle system base 4 1
first_push = record { rule = push; there = refl; callee = 0; waits = 1; right = refl; state = refl }

pub run_of_a_call : PostRun system edges base (arrow 1 0 4) (1 ∷ [])
run_of_a_call = inl (omega arith, inr (record { number = 1; push = first_push; rest = []; starts = refl; goes = refl }))

pub run_of_a_return : PostRun system edges base (skip 0 4) (1 ∷ 2 ∷ [])
run_of_a_return = inl (omega arith, inr (record { number = 1; push = first_push; rest = 2 ∷ []; starts = refl; goes = (at_stack 0 [], refl, refl) }))

-- what waits below a call stands for runs to the call
pub run_of_what_waits : PostRun system edges base (arrow 4 1 2) []
run_of_what_waits = inr (inr (record {
  number = 1;
  push = first_push;
  label = refl;
  comes = inl (record { item = omega arith; last = omega arith; from = at_stack 0 (0 ∷ []); low = omega arith; reads = (2, inl refl, refl); goes = refl });
}))
