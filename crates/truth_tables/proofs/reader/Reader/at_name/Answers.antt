use Rattle.std.proofs.Common.{◌≡◌, ◌∙◌, true, false, sym, ap}
use Rattle.std.specs.Prelude.{codes, bytes_eq}
use Rattle.truth_tables.proofs.StepLemmas.{name_table2, name_table3}
use Rattle.truth_tables.proofs.reader.Reader.at_name.Goals as goal

pub returns-then-eq-2 : goal.returns-then-eq-2
returns-then-eq-2 c =
    let name = c.args.name.now in
    let first : bytes_eq name (codes "return") ≡ false = sym (c.eq.ensures ∙ ap (bytes_eq name) c.as_slice.ensures) ∙ c.if-eq.false in
    let second : bytes_eq name (codes "tab2") ≡ true = sym (c.eq-2.ensures ∙ ap (bytes_eq name) c.as_slice-2.ensures) ∙ c.if-eq-2.true in
    name_table2 c.args.limit c.args.place c.args.self.now.pending.items c.args.self.now.parts name first second

pub returns-then-eq-3 : goal.returns-then-eq-3
returns-then-eq-3 c =
    let name = c.args.name.now in
    let first : bytes_eq name (codes "return") ≡ false = sym (c.eq.ensures ∙ ap (bytes_eq name) c.as_slice.ensures) ∙ c.if-eq.false in
    let second : bytes_eq name (codes "tab2") ≡ false = sym (c.eq-2.ensures ∙ ap (bytes_eq name) c.as_slice-2.ensures) ∙ c.if-eq-2.false in
    let third : bytes_eq name (codes "tab3") ≡ true = sym (c.eq-3.ensures ∙ ap (bytes_eq name) c.as_slice-3.ensures) ∙ c.if-eq-3.true in
    name_table3 c.args.limit c.args.place c.args.self.now.pending.items c.args.self.now.parts name first second third
