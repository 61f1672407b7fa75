use Rattle.std.proofs.Common.{ℕ, List, length, sym, subst, arith}
use Rattle.std.specs.Prelude.{Result, IfOk}
use Rattle.wpds_base.specs.declared.out_of_memory.OutOfMemory.{OutOfMemory}
use Rattle.genkill_weights.proofs.CallerLemmas.{width_1, width_2, width_4, width_8, width_16}
use Rattle.document_forms.specs.Documents.{Document}
use Rattle.document_systems.specs.FactWeights.{genkill_kind}
use Rattle.document_systems.proofs.CallerLemmas.{all_taken}
use Rattle.report_text.specs.declared.options.Options.{Options}
use Rattle.wpds_app.specs.Reports.{IsReported}
use Rattle.wpds_app.proofs.report.facts_report.Goals as goal

-- a report over facts of so many words
abbrev ReportedOver : Options → Document → Result (List ℕ) OutOfMemory → ℕ → Type 0
ReportedOver options d result n = IfOk result (IsReported (genkill_kind n) options (record {}) d)

pub returns-in-0-to-64-with_width : goal.returns-in-0-to-64-with_width
returns-in-0-to-64-with_width g c =
    subst (ReportedOver c.args.options c.args.document.now c.report_over.result) (sym (width_1 (length c.args.document.now.items) (omega (arith, c.len.ensures)))) c.report_over.ensures

pub returns-in-65-to-128-with_width : goal.returns-in-65-to-128-with_width
returns-in-65-to-128-with_width g c =
    subst (ReportedOver c.args.options c.args.document.now c.report_over-2.result) (sym (width_2 (length c.args.document.now.items) (omega (arith, c.len.ensures)) (omega (arith, c.len.ensures)))) c.report_over-2.ensures

pub returns-in-129-to-256-with_width : goal.returns-in-129-to-256-with_width
returns-in-129-to-256-with_width g c =
    subst (ReportedOver c.args.options c.args.document.now c.report_over-3.result) (sym (width_4 (length c.args.document.now.items) (omega (arith, c.len.ensures)) (omega (arith, c.len.ensures)))) c.report_over-3.ensures

pub returns-in-257-to-512-with_width : goal.returns-in-257-to-512-with_width
returns-in-257-to-512-with_width g c =
    subst (ReportedOver c.args.options c.args.document.now c.report_over-4.result) (sym (width_8 (length c.args.document.now.items) (omega (arith, c.len.ensures)) (omega (arith, c.len.ensures)))) c.report_over-4.ensures

pub returns-in_default : goal.returns-in_default
returns-in_default g c =
    subst (ReportedOver c.args.options c.args.document.now c.report_over-5.result) (sym (width_16 (length c.args.document.now.items) (omega (arith, c.len.ensures)))) c.report_over-5.ensures

pub report_over-requires-clause-taken : goal.report_over-requires-clause-taken
report_over-requires-clause-taken g c κs within = all_taken (genkill_kind 1) (record {}) (λ t. tt) (λ m. tt) c.args.document.now

pub report_over-requires-2-clause-taken : goal.report_over-requires-2-clause-taken
report_over-requires-2-clause-taken g c κs within = all_taken (genkill_kind 2) (record {}) (λ t. tt) (λ m. tt) c.args.document.now

pub report_over-requires-3-clause-taken : goal.report_over-requires-3-clause-taken
report_over-requires-3-clause-taken g c κs within = all_taken (genkill_kind 4) (record {}) (λ t. tt) (λ m. tt) c.args.document.now

pub report_over-requires-4-clause-taken : goal.report_over-requires-4-clause-taken
report_over-requires-4-clause-taken g c κs within = all_taken (genkill_kind 8) (record {}) (λ t. tt) (λ m. tt) c.args.document.now

pub report_over-requires-5-clause-taken : goal.report_over-requires-5-clause-taken
report_over-requires-5-clause-taken g c κs within = all_taken (genkill_kind 16) (record {}) (λ t. tt) (λ m. tt) c.args.document.now
