use Rattle.std.proofs.Common.{◌≡◌, ℕ, List, [], length, slice_get, ◌-◌, sym, ap, ◌∙◌}
use Rattle.std.specs.Option.{option_copied, option_map_or}
use Rattle.giop_tap.specs.Waiting.{last_of, numbers_in}
use Rattle.giop_tap.proofs.Stacks.{last-got}
use Rattle.giop_tap.proofs.waiting.latest_at.Goals as goal

pub returns : goal.returns
returns c =
    let ns : List ℕ = c.in_ok-numbers.numbers.now.items in
    let found : numbers_in c.args.waiting.now.entries c.args.place ≡ ns =
    ap (λ o. option_map_or (λ v. v.items) o []) (sym c.get.ensures.value) ∙ ap (λ o. option_map_or (λ v. v.items) (option_copied o) []) c.in_ok-numbers.was in
    c.copied.ensures ∙ c.last.ensures.value ∙ ap (λ (s : List ℕ). slice_get s (length s - 1)) c.deref.ensures.value ∙ last-got ns ∙ ap last_of (sym found)
