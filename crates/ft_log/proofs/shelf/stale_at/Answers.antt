use Rattle.std.proofs.Common.{refl, sym, ap, ◌∙◌}
use Rattle.std.proofs.lemmas.Slice.Eq.{bytes_eq-Decides}
use Rattle.ft_log.specs.View.{key_of}
use Rattle.ft_log.proofs.shelf.stale_at.Goals as goal

pub returns-then-eq-clause-stale : goal.returns-then-eq-clause-stale
returns-then-eq-clause-stale c = record {
  name = c.in_ok-name.name.now;
  kept = c.in_ok-name.kept.now;
  there = sym c.in_ok-name.ensures.entry;
  before = c.if-kept-now.true;
  of_client = sym c.as_slice.ensures.value ∙ (bytes_eq-Decides c.as_slice.result.now c.args.client_id.now).0 (sym c.eq.ensures ∙ c.if-eq.true);
  slot = refl;
  key = ap key_of c.named.ensures;
}
