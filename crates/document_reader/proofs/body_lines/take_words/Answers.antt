use Rattle.std.proofs.Common.{sym, ap, ◌∙◌}
use Rattle.std.proofs.lemmas.Result.{IfOk-weaker}
use Rattle.wpds_base.specs.Faults.{first_fault}
use Rattle.wpds_port.specs.Words.{word_of}
use Rattle.document_forms.specs.Forms.{form_behind}
use Rattle.document_forms.specs.FirstRefusal.{by_form}
use Rattle.document_forms.specs.Kinds.{conditions}
use Rattle.document_reader.specs.private.Readings.{above_now, all_behind}
use Rattle.document_reader.proofs.LineFormLemmas.{weights_behind, controls_behind, symbols_behind, facts_behind, variables_behind, rule_behind, query_behind}
use Rattle.document_reader.proofs.SymbolLemmas.{none_here, still_known}
use Rattle.document_reader.proofs.body_lines.take_words.Goals as goal

pub returns-then-is_name-3-clause-answered : goal.returns-then-is_name-3-clause-answered
returns-then-is_name-3-clause-answered c =
    let form = form_behind (word_of c.args.first) c.args.words.now in
    let all = all_behind c.args.reading.now.scope.symbols form c.args.left.now.lines in
    record {
      kind = c.weights_kind.ensures all (above_now c.args.reading.now)
          ∙ ap (λ f. first_fault (by_form (conditions all (above_now c.args.reading.now)) f))
          (sym (weights_behind (word_of c.args.first) c.args.words.now (sym c.if-is_name-3.ensures)));
      taken = tt;
    }

pub returns-then-is_name-4-clause-answered : goal.returns-then-is_name-4-clause-answered
returns-then-is_name-4-clause-answered c =
    rw (controls_behind (word_of c.args.first) c.args.words.now (sym c.if-is_name-4.ensures))
    (IfOk-weaker c.declare_controls.result _ _ (λ k h. h _) c.declare_controls.ensures)

pub returns-then-is_name-5-clause-answered : goal.returns-then-is_name-5-clause-answered
returns-then-is_name-5-clause-answered c =
    rw (symbols_behind (word_of c.args.first) c.args.words.now (sym c.if-is_name-5.ensures))
    (IfOk-weaker c.declare_symbols.result _ _ (λ k h. h _) c.declare_symbols.ensures)

pub returns-then-is_name-6-clause-answered : goal.returns-then-is_name-6-clause-answered
returns-then-is_name-6-clause-answered c =
    rw (facts_behind (word_of c.args.first) c.args.words.now (sym c.if-is_name-6.ensures))
    (IfOk-weaker c.declare_facts.result _ _ (λ k h. h _) c.declare_facts.ensures)

pub returns-then-is_name-7-clause-answered : goal.returns-then-is_name-7-clause-answered
returns-then-is_name-7-clause-answered c =
    rw (variables_behind (word_of c.args.first) c.args.words.now (sym c.if-is_name-7.ensures))
    (IfOk-weaker c.declare_variables.result _ _ (λ k h. h _) c.declare_variables.ensures)

pub returns-then-is_name-clause-answered : goal.returns-then-is_name-clause-answered
returns-then-is_name-clause-answered c =
    rw (rule_behind (word_of c.args.first) c.args.words.now (sym c.if-is_name.ensures))
    (IfOk-weaker c.take_rule.result _ _ (λ k h. h _) c.take_rule.ensures)

pub returns-then-is_name-2-clause-answered : goal.returns-then-is_name-2-clause-answered
returns-then-is_name-2-clause-answered c =
    let here =
    c.in_ok-all.ensures.all
    ∙ sym (none_here c.args.reading.now.scope.symbols (word_of c.args.first) c.args.words.now c.args.left.now.lines
    (sym c.if-is_name-2.ensures)) in
    rw (sym here) (rw (query_behind (word_of c.args.first) c.args.words.now (sym c.if-is_name-2.ensures)) c.take_query.ensures)

pub returns-then-is_name-2-clause-known : goal.returns-then-is_name-2-clause-known
returns-then-is_name-2-clause-known c =
    let here =
    c.in_ok-all.ensures.all
    ∙ sym (none_here c.args.reading.now.scope.symbols (word_of c.args.first) c.args.words.now c.args.left.now.lines
    (sym c.if-is_name-2.ensures)) in
    still_known c.take_query.result c.all_symbols.new.known c.in_ok-all.all _ c.in_ok-all.ensures.known here
