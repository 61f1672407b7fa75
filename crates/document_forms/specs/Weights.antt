-- Weights as they are written: the forms of the texts of each semiring.
use Rattle.std.specs.Prelude.{ℕ, Bool, true, false, if◌then◌else◌, List, [], ◌∷◌, Option, Some, None, option_map, bytes_eq, codes}
use Rattle.wpds_port.specs.declared.Mark.TheVariants.{Plus, Minus, Equal, Question, Star}
use Rattle.wpds_port.specs.declared.Word.{Word}
use Rattle.wpds_port.specs.declared.Word.TheVariants.{Name, Number, Mark as Sign}
use Rattle.truth_tables.specs.Grammar.{Tree}
use Rattle.truth_tables.specs.Stacks.{tree_of}
use Rattle.truth_tables.specs.Texts.{is_name}
use Rattle.document_forms.specs.declared.weight.WeightsLine.{WeightsLine}
use Rattle.document_forms.specs.declared.weight.WeightsLine.TheVariants.{Reach, Cost, GenKill, Copy, Relation}
use Rattle.document_forms.specs.Words.{is_comma, is_semicolon, is_becomes, before, behind, parted, parted_outside, pairs, name_of, each, each_of_some, ◌>>=◌}

-- `+FACT` or `-FACT`
pub record SignForm : Type 0 where
  pub plus : Bool
  pub fact : List ℕ

-- a part of a copy: a variable, or a whole number, which is negative or not, by its digits
pub data PartForm : Type 0 where
  OfVariable : List ℕ → PartForm
  OfNumber : (negative : Bool) → List ℕ → PartForm

pub data PartsForm : Type 0 where
  -- `?`
  VaryingParts : PartsForm
  -- `undef`
  Undefined : PartsForm
  Parts : List PartForm → PartsForm

-- `X=PARTS`
pub record PairForm : Type 0 where
  pub variable : List ℕ
  pub parts : PartsForm

pub data ValueForm : Type 0 where
  -- `*`
  FreeValue : ValueForm
  TreeValue : Tree → ValueForm

pub data ActionForm : Type 0 where
  -- `assume E`
  AssumeForm : Tree → ActionForm
  -- `choose X ..`
  ChooseForm : List (List ℕ) → ActionForm
  -- `X, .. := V, ..`
  AssignForm : List (List ℕ) → List ValueForm → ActionForm

pub data WeightForm : Type 0 where
  -- `one`, or no weight
  OneForm : WeightForm
  -- `none`
  NoneForm : WeightForm
  NumberForm : List ℕ → WeightForm
  SignsForm : List SignForm → WeightForm
  PairsForm : List PairForm → WeightForm
  ActionsForm : List ActionForm → WeightForm

-- ---- costs: a number

abbrev pub cost_of : List Word → Option WeightForm
cost_of (Number n ∷ []) = Some (NumberForm n)
cost_of _ = None

-- ---- gen-kill: one or more of `+FACT` and `-FACT`

abbrev pub sign_of : Word → Option Bool
sign_of (Sign Plus) = Some true
sign_of (Sign Minus) = Some false
sign_of _ = None

abbrev pub signs : List Word → Option (List SignForm)
signs [] = Some []
signs (w ∷ []) = None
signs (w ∷ v ∷ ws) = do
  plus ← sign_of w
  fact ← name_of v
  more ← signs ws
  Some (record { plus = plus; fact = fact } ∷ more)

abbrev pub genkill_of : List Word → Option WeightForm
genkill_of [] = None
genkill_of (w ∷ ws) = option_map SignsForm (signs (w ∷ ws))

-- ---- copy constants: one or more of `X=PARTS`

-- a variable or a whole number; `undef` is a name here
abbrev pub part_of : List Word → Option PartForm
part_of (Name x ∷ []) = Some (OfVariable x)
part_of (Number n ∷ []) = Some (OfNumber false n)
part_of (Sign Minus ∷ Number n ∷ []) = Some (OfNumber true n)
part_of _ = None

-- the parts that are one name
abbrev pub named_part : List ℕ → PartsForm
named_part x = if bytes_eq x (codes "undef") then Undefined else Parts (OfVariable x ∷ [])

abbrev pub parts_of : List Word → Option PartsForm
parts_of (Sign Question ∷ []) = Some VaryingParts
parts_of (Name x ∷ []) = Some (named_part x)
parts_of ws = option_map Parts (each part_of (parted is_comma ws))

abbrev pub pair_of : List Word → Option PairForm
pair_of (Name x ∷ Sign Equal ∷ ws) =
    option_map (λ p. record { variable = x; parts = p }) (parts_of ws)
pair_of _ = None

-- one or more, and nothing before the first
abbrev pub pairs_in : List (List Word) → Option WeightForm
pairs_in ([] ∷ ps) = option_map PairsForm (each_of_some pair_of ps)
pairs_in _ = None

abbrev pub copy_of : List Word → Option WeightForm
copy_of ws = pairs_in (pairs ws)

-- ---- relations: actions with `;` between

abbrev pub value_of : List Word → Option ValueForm
value_of (Sign Star ∷ []) = Some FreeValue
value_of ws = option_map TreeValue (tree_of ws)

-- a target of an assignment: one name
abbrev pub target_of : List Word → Option (List ℕ)
target_of (Name x ∷ []) = Some x
target_of _ = None

abbrev pub assign_of : List Word → Option ActionForm
assign_of ws = do
  targets ← each target_of (parted is_comma (before is_becomes ws))
  text ← behind is_becomes ws
  values ← each value_of (parted_outside 0 is_comma text)
  Some (AssignForm targets values)

abbrev pub action_of : List Word → Option ActionForm
action_of [] = None
action_of (w ∷ ws) =
    if is_name (codes "assume") w then option_map AssumeForm (tree_of ws)
    else (if is_name (codes "choose") w then option_map ChooseForm (each_of_some name_of ws)
    else assign_of (w ∷ ws))

abbrev pub relation_of : List Word → Option WeightForm
relation_of ws = option_map ActionsForm (each action_of (parted is_semicolon ws))

-- ---- all

abbrev pub own_weight : WeightsLine → List Word → Option WeightForm
own_weight Reach ws = None
own_weight (Cost cap) ws = cost_of ws
own_weight GenKill ws = genkill_of ws
own_weight Copy ws = copy_of ws
own_weight Relation ws = relation_of ws

abbrev pub is_only : List ℕ → List Word → Bool
is_only x (w ∷ []) = is_name x w
is_only x _ = false

-- the weight that the words are in a document with these weights
abbrev pub weight_of : WeightsLine → List Word → Option WeightForm
weight_of weights ws =
    if is_only (codes "one") ws then Some OneForm
    else (if is_only (codes "none") ws then Some NoneForm else own_weight weights ws)
