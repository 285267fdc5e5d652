use Rattle.std.proofs.Common.{sym, ap, ◌∙◌, true≢false}
use Rattle.ft_log.specs.Keys.{same_key}
use Rattle.ft_log.proofs.Listed.{differ, itself}
use Rattle.ft_log.proofs.laws.distinct_keys_differ.Goals as goal

pub returns : goal.returns
returns c = λ front between rest a b distinct same.
    true≢false (sym (itself b) ∙ ap (same_key b) (sym same) ∙ differ front between rest a b distinct)
