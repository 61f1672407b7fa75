-- Which values are given.
use Rattle.std.specs.Prelude.{List, replicate}
use Rattle.boolean_programs.specs.declared.statement.Choice.{Choice}
use Rattle.boolean_programs.specs.declared.statement.Choice.TheVariants.{Star, Is}
use Rattle.boolean_meaning.specs.declared.picking.Values.{Values}
use Rattle.boolean_meaning.specs.declared.picking.Values.TheVariants.{Listed, AllFree}
use Rattle.boolean_meaning.specs.declared.picking.Value.{Value}
use Rattle.boolean_meaning.specs.declared.picking.Value.TheVariants.{Free, Of}

abbrev pub values_of : Values → List Choice
values_of (Listed vs) = vs.now
values_of (AllFree n) = replicate n Star

abbrev pub choice_of : Value → Choice
choice_of Free = Star
choice_of (Of e) = Is e.now
