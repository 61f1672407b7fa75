use Rattle.report_text.specs.Listings.{rule_text, set_text}
use Rattle.report_text.proofs.LineLemmas.{parts_joined}
use Rattle.report_text.proofs.listing.put_parts.Goals as goal

pub returns-in-Post-clause-text : goal.returns-in-Post-clause-text
returns-in-Post-clause-text c =
    rw (
      c.in-Post.is,
      c.put_set_part.ensures.text,
      c.put_set_part-more-in-Post.ensures.more,
      c.put_set_part-more-in-Post.ensures.text,
      c.put_rule_part-more.ensures.more,
      c.put_rule_part-more.ensures.text,
    ) (parts_joined set_text set_text rule_text c.args.first c.args.second c.args.rule c.args.line.now.text)
