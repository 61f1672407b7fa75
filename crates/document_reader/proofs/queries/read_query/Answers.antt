use Rattle.std.proofs.Common.{◌≡◌, Some, sym, refl, ◌∙◌}
use Rattle.document_forms.specs.Patterns.{PatternForm, pattern_of}
use Rattle.document_reader.specs.QueryReading.{IsPatternRead}
use Rattle.document_reader.proofs.PatternLemmas.{query_found, no_query_to, query_read}
use Rattle.document_reader.proofs.queries.read_query.Goals as goal

pub returns-in_default-3 : goal.returns-in_default-3
returns-in_default-3 c =
    no_query_to c.args.words.now c.in-Some.behind (sym c.in-Some.is ∙ c.split_once-before.ensures.behind)
    (rw c.in_default-3.is at c.in_ok-to.ensures)

pub returns : goal.returns
returns c =
    let from : (p : PatternForm) × (pattern_of c.split_once-before.result.0 ≡ Some p) × IsPatternRead c.args.all c.args.controls.now c.args.symbols.now p c.in-Some-2.from = rw c.in-Some-2.is at c.in_ok-from.ensures in
    let to : (p : PatternForm) × (pattern_of c.in-Some.behind ≡ Some p) × IsPatternRead c.args.all c.args.controls.now c.args.symbols.now p c.in-Some-3.to = rw c.in-Some-3.is at c.in_ok-to.ensures in (
      from.0,
      to.0,
      query_found c.args.words.now c.split_once-before.result.0 c.in-Some.behind from.0 to.0
          c.split_once-before.ensures.before (sym c.in-Some.is ∙ c.split_once-before.ensures.behind) from.1 to.1,
      query_read c.args.all c.args.controls.now c.args.symbols.now from.0 to.0 c.in-Some-2.from c.in-Some-3.to _
          from.2 to.2 refl refl c.or-faults.ensures.twice c.or-faults.ensures.unknown c.or-faults.ensures.count,
    )
