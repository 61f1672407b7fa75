use Rattle.std.proofs.Common.{sym, ◌∙◌}
use Rattle.std.proofs.lemmas.Map.Text.{is_eq-slice_cmp}
use Rattle.key_rows.proofs.bytes.RefSliceU8Key.is_key.Goals as goal

pub returns : goal.returns
returns c = c.same_bytes.ensures ∙ sym (is_eq-slice_cmp c.args.self.now c.args.other.now)
