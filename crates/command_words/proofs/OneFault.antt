-- Of a command without subcommands, `clap` gives at most one kind of fault.
use Rattle.std.proofs.Common.{◌≡◌, ◌&&◌, ℕ, Bool, cond, true, false, not, zero, suc, refl, sym, subst, List, [], ◌∷◌, length, drop, min, Option, Some, None, is_some, inl, inr}
use Rattle.std.specs.Bool.{⊤}
use Rattle.std.specs.Prelude.{nat_lt, ◌==◌, ◌||◌, ◌+◌, encode_utf8, slice_get}
use Rattle.std.specs.Option.{option_map_or}
use Rattle.std.specs.Str.{bytes_eq, chars}
use Rattle.clap.specs.Lexer.{long_of, short_of}
use Rattle.clap.specs.Matches.{count_text}
use Rattle.clap.specs.Facts.{parser_of_value, unwrap_or_range}
use Rattle.clap.specs.Values.{refused_kind}
use Rattle.clap.specs.ValueTests.{accepts}
use Rattle.clap.specs.Walk.{Held, Row, Rule, Step, Text, Waiting, Walk, idle, option, positional, next, trailing, subcommand, value, action_of, arg_by_id, arg_by_index, arg_by_long, arg_by_short, attached_value, count_of, has_row, is_empty, is_pending, most_values, nothing_held, reacted, settled, subcommand_met, takes_several, takes_values, values_or_missing, walk, walk_from, walked, with_default, word_met}
use Rattle.clap.specs.Simple.{App, Shape, built, entered, argument_words}
use Rattle.clap.specs.Kinds.{Kinds, IsAmong, check_kinds, or_else, range_kinds, request_kinds, value_kinds, values_kinds}
use Rattle.clap.specs.Faults.{values_fault, count_fault, repeat_fault, set_fault, action_fault, use_fault, settle_fault, react_fault, option_fault, long_fault, short_fault, bundle_step_fault, flags_fault, flag_word_fault, other_fault, word_fault, positional_fault, stray_fault, step_fault, turn_fault, walk_fault, default_fault, defaults_fault, level_fault, entered_fault, built_fault, fault_of}
use Rattle.clap.specs.declared.builder.action.ArgAction.{ArgAction}
use Rattle.clap.specs.declared.builder.action.ArgAction.TheVariants as action
use Rattle.clap.specs.declared.builder.value_parser.ValueParser.{ValueParser}
use Rattle.clap.specs.declared.error.kind.ErrorKind.{ErrorKind}
use Rattle.clap.specs.declared.error.kind.ErrorKind.TheVariants as kind

-- at most one
abbrev pub IsOne : Kinds → Type 0
IsOne [] = ⊤
IsOne (k ∷ []) = ⊤
IsOne (k ∷ l ∷ ks) = ⊥

or_else_one : (a b : Kinds) → IsOne a → IsOne b → IsOne (or_else a b)
or_else_one [] b one other = other
or_else_one (k ∷ ks) b one other = one

cond_one : (b : Bool) (x y : Kinds) → IsOne x → IsOne y → IsOne (cond b x y)
cond_one true x y one other = one
cond_one false x y one other = other

option_one : {X : Type 0} (f : X → Kinds) (o : Option X) → ((x : X) → IsOne (f x)) → IsOne (option_map_or f o [])
option_one f None each = tt
option_one f (Some x) each = each x

-- ---- one use of an argument

value_one : (i : Bool) (p : ValueParser) (t : Text) → IsOne (value_kinds i p t)
value_one i p t = cond_one (accepts i p t) [] (refused_kind p ∷ []) tt tt

values_one : (i : Bool) (p : ValueParser) (ts : List Text) → IsOne (values_kinds i p ts)
values_one i p [] = tt
values_one i p (t ∷ ts) = or_else_one (value_kinds i p t) (values_kinds i p ts) (value_one i p t) (values_one i p ts)

range_one : (least most n : ℕ) → IsOne (range_kinds least most n)
range_one least most n =
    cond_one (nat_lt 0 least && n == 0) _ _ tt
    (cond_one (least == most) _ _ (cond_one (least == n) _ _ tt tt)
    (cond_one (nat_lt n least) _ _ tt (cond_one (nat_lt most n) _ _ tt tt)))

request_one : (x : ArgAction) → IsOne (request_kinds x)
request_one action.Set = tt
request_one action.Append = tt
request_one action.SetTrue = tt
request_one action.SetFalse = tt
request_one action.Count = tt
request_one action.Help = tt
request_one action.HelpShort = tt
request_one action.HelpLong = tt
request_one action.Version = tt

count_one : (a : Rule) (vs : List Text) (rows : List Row) → IsOne (count_fault a vs rows)
count_one a [] rows = value_one a.ignore_case (parser_of_value a.parser) (count_text (min (count_of a.id rows + 1) 255))
count_one a (v ∷ vs) rows = values_one a.ignore_case (parser_of_value a.parser) (v ∷ vs)

set_one : (again : Bool) (a : Rule) (vs : List Text) (rows : List Row) → IsOne (set_fault again a vs rows)
set_one again a vs rows =
    or_else_one (repeat_fault again a.id rows) (values_fault a vs) (cond_one (has_row a.id rows && not again) _ _ tt tt)
    (values_one a.ignore_case (parser_of_value a.parser) vs)

action_one : (x : ArgAction) (again : Bool) (a : Rule) (vs : List Text) (rows : List Row) → IsOne (action_fault x again a vs rows)
action_one action.Set again a vs rows = set_one again a vs rows
action_one action.SetTrue again a vs rows = set_one again a vs rows
action_one action.SetFalse again a vs rows = set_one again a vs rows
action_one action.Append again a vs rows = values_one a.ignore_case (parser_of_value a.parser) vs
action_one action.Count again a vs rows = count_one a vs rows
action_one action.Help again a vs rows = tt
action_one action.HelpShort again a vs rows = tt
action_one action.HelpLong again a vs rows = tt
action_one action.Version again a vs rows = tt

use_one : (again : Bool) (a : Rule) (vs : List Text) (rows : List Row) → IsOne (use_fault again a vs rows)
use_one again a vs rows =
    or_else_one (range_kinds (unwrap_or_range a.range).start_inclusive (most_values a) (length vs)) _
    (range_one (unwrap_or_range a.range).start_inclusive (most_values a) (length vs))
    (action_one (action_of a) again a (values_or_missing a vs) rows)

-- ---- the walk

settle_one : (c : List Rule) (again : Bool) (h : Held) → IsOne (settle_fault c again h)
settle_one c again h =
    option_one (λ p. option_map_or (λ a. use_fault again a p.1 h.rows) (arg_by_id c p.0) []) h.pending
    (λ p. option_one (λ a. use_fault again a p.1 h.rows) (arg_by_id c p.0) (λ a. use_one again a p.1 h.rows))

react_one : (c : List Rule) (again : Bool) (a : Rule) (vs : List Text) (h : Held) → IsOne (react_fault c again a vs h)
react_one c again a vs h = or_else_one (settle_fault c again h) _ (settle_one c again h) (use_one again a vs (settled c h).rows)

given_one : (c : List Rule) (again : Bool) (a : Rule) (o : Option Text) (h : Held) → IsOne (option_fault c again a o h)
given_one c again a (Some v) h = react_one c again a (v ∷ []) h
given_one c again a None h = settle_one c again h

long_one : (c : List Rule) (again : Bool) (o : Option Rule) (v : Option Text) (h : Held) → IsOne (long_fault c again o v h)
long_one c again None v h = tt
long_one c again (Some a) v h =
    cond_one (takes_values a) _ _ (given_one c again a v h) (cond_one (is_some v) _ _ tt (react_one c again a [] h))

short_one : (c : List Rule) (again : Bool) (o : Option Rule) (rest : Text) (h : Held) (more : Held → Kinds) → ((g : Held) → IsOne (more g))
    → IsOne (short_fault c again o rest h more)
short_one c again None rest h more each = tt
short_one c again (Some a) rest h more each =
    cond_one (takes_values a) _ _ (given_one c again a (attached_value rest) h)
    (or_else_one (react_fault c again a [] h) _ (react_one c again a [] h) (each (reacted c a [] h)))

bundle_step_one : (c : List Rule) (again : Bool) (o : Option ℕ) (flags : Text) (skip : ℕ) (h : Held) (more : Text → ℕ → Held → Kinds)
    → ((t : Text) (n : ℕ) (g : Held) → IsOne (more t n g)) → IsOne (bundle_step_fault c again o flags skip h more)
bundle_step_one c again None flags skip h more each = tt
bundle_step_one c again (Some x) flags zero h more each =
    short_one c again (arg_by_short c x) (drop (length (encode_utf8 x)) flags) h (more (drop (length (encode_utf8 x)) flags) 0)
    (each (drop (length (encode_utf8 x)) flags) 0)
bundle_step_one c again (Some x) flags (suc skip) h more each = each (drop (length (encode_utf8 x)) flags) skip h

flags_one : (c : List Rule) (again : Bool) (k : ℕ) (flags : Text) (skip : ℕ) (h : Held) → IsOne (flags_fault c again k flags skip h)
unfolding flags_fault
flags_one c again zero flags skip h = tt
flags_one c again (suc k) flags skip h =
    bundle_step_one c again (slice_get (chars flags) 0) flags skip h (flags_fault c again k) (λ t n g. flags_one c again k t n g)

flag_word_one : (c : List Rule) (again : Bool) (o : Option (Text × Option Text)) (word : Text) (h : Held) → IsOne (flag_word_fault c again o word h)
flag_word_one c again (Some p) word h = long_one c again (arg_by_long c p.0) p.1 h
flag_word_one c again None word h =
    option_one (λ flags. flags_fault c again (length flags) flags h.skip (record h { skip = 0 })) (short_of word)
    (λ flags. flags_one c again (length flags) flags h.skip (record h { skip = 0 }))

-- no word names a subcommand
none_met : (w : Waiting) (word : Text) → subcommand_met [] w word ≡ None
none_met idle word = refl
none_met (option id) word = refl
none_met positional word = refl

word_one : (s : Shape) (is_trailing : Bool) (waiting : Waiting) (word : Text) (h : Held) → IsOne (word_fault s [] is_trailing waiting word h)
word_one s is_trailing waiting word h =
    let plain : IsOne (other_fault s None word h) =
    cond_one (bytes_eq word (45 ∷ 45 ∷ [])) _ _ tt (flag_word_one s.rules s.args_override_self (long_of word) word h) in
    cond_one is_trailing _ _ tt (subst (λ o. IsOne (other_fault s o word h)) (sym (none_met waiting word)) plain)

positional_one : (c : List Rule) (again : Bool) (a : Rule) (h : Held) → IsOne (positional_fault c again a h)
positional_one c again a h = cond_one (is_pending a h.pending && takes_several a) _ _ tt (settle_one c again h)

stray_one : (s : Shape) → s.is_leaf ≡ true → IsOne (stray_fault s)
stray_one s leaf = subst (λ b. IsOne (cond b (kind.UnknownArgument ∷ []) (kind.UnknownArgument ∷ kind.InvalidSubcommand ∷ []))) (sym leaf) tt

-- `option_map_or` with another default
or_one : {X : Type 0} (f : X → Kinds) (o : Option X) (d : Kinds) → ((x : X) → IsOne (f x)) → IsOne d → IsOne (option_map_or f o d)
or_one f None d each one = one
or_one f (Some x) d each one = each x

step_one : (s : Shape) → s.is_leaf ≡ true → (position : ℕ) (h : Held) (step : Step) → IsOne (step_fault s position h step)
step_one s leaf position h value =
    or_one (λ a. positional_fault s.rules s.args_override_self a h) (arg_by_index s.rules position) (stray_fault s)
    (λ a. positional_one s.rules s.args_override_self a h) (stray_one s leaf)
step_one s leaf position h (next w) = tt
step_one s leaf position h (trailing k) = tt
step_one s leaf position h (subcommand t) = tt

turn_one : (s : Shape) → s.is_leaf ≡ true → (w : Walk) (word : Text) → IsOne (turn_fault s [] w word)
turn_one s leaf w word =
    let met = word_met s.rules [] w.is_trailing w.waiting w.position word w.held in
    cond_one (is_some w.stopped) _ _ tt
    (or_else_one (word_fault s [] w.is_trailing w.waiting word w.held) _ (word_one s w.is_trailing w.waiting word w.held) (step_one s leaf w.position met.0 met.1))

walk_one : (s : Shape) → s.is_leaf ≡ true → (w : Walk) (words : List Text) → IsOne (walk_fault s [] w words)
unfolding walk_fault
walk_one s leaf w [] = tt
walk_one s leaf w (word ∷ rest) =
    or_else_one (turn_fault s [] w word) _ (turn_one s leaf w word) (walk_one s leaf (walked s.rules [] w word) rest)

-- ---- after the walk

default_one : (rows : List Row) (a : Rule) → IsOne (default_fault rows a)
default_one rows a =
    cond_one (has_row a.id rows || is_empty a.defaults) _ _ tt
    (or_else_one (request_kinds (action_of a)) _ (request_one (action_of a)) (values_one a.ignore_case (parser_of_value a.parser) a.defaults))

defaults_one : (rows : List Row) (rules : List Rule) → IsOne (defaults_fault rows rules)
unfolding defaults_fault
defaults_one rows [] = tt
defaults_one rows (a ∷ rest) = or_else_one (default_fault rows a) _ (default_one rows a) (defaults_one (with_default rows a) rest)

check_one : (x y z : Bool) → IsOne (check_kinds x y z)
check_one x y z = cond_one x _ _ tt (cond_one y _ _ tt (cond_one z _ _ tt tt))

level_one : (s : Shape) → s.is_leaf ≡ true → (h : Held) (words : List Text) (entered : Bool) (below : Kinds) → IsOne below
    → IsOne (level_fault s [] h words entered below)
level_one s leaf h words entered below one =
    let end = (walk s.rules [] h words).held in
    or_else_one (walk_fault s [] (walk_from h) words) _ (walk_one s leaf (walk_from h) words)
    (or_else_one below _ one
    (or_else_one (settle_fault s.rules s.args_override_self end) _ (settle_one s.rules s.args_override_self end)
    (or_else_one (defaults_fault (settled s.rules end).rows s.rules) _ (defaults_one (settled s.rules end).rows s.rules) (check_one _ _ _))))

-- a command without subcommands enters none
none_entered : (s : Shape) (stop : Option (Text × List Text)) → IsOne (entered_fault (record { top = s; subs = [] }) stop)
none_entered s None = tt
none_entered s (Some p) = tt

built_one : (s : Shape) → s.is_leaf ≡ true → (h : Held) (words : List Text) → IsOne (built_fault (record { top = s; subs = [] }) h words)
built_one s leaf h words =
    let app : App = record { top = s; subs = [] } in
    let stop = (walk s.rules [] h words).stopped in
    level_one s leaf h words (is_some (entered app stop)) (entered_fault app stop) (none_entered s stop)

-- the kind of an error is the one that there is
pub the_kind : (x : ErrorKind) (ks : Kinds) → IsOne ks → IsAmong x ks → (k : ErrorKind) × (ks ≡ k ∷ []) × (x ≡ k)
the_kind x [] one among = absurd among
the_kind x (k ∷ []) one (inl same) = (k, refl, same)
the_kind x (k ∷ []) one (inr more) = absurd more
the_kind x (k ∷ l ∷ ks) one among = absurd one

-- of a command whose built form has this shape alone
pub one_fault : (a : App) (s : Shape) (words : List Text) → built a ≡ record { top = s; subs = [] } → s.is_leaf ≡ true → IsOne (fault_of a words)
one_fault a s words same leaf =
    subst (λ b. IsOne (built_fault b nothing_held (argument_words a words))) (sym same) (built_one s leaf nothing_held (argument_words a words))
