use Rattle.std.proofs.Common.{◌≡◌, ℕ, List, Some, None, sym, ap, ◌∙◌}
use Rattle.std.specs.List.{position}
use Rattle.giop_frames.specs.declared.partial.Key.{Key}
use Rattle.giop_frames.specs.declared.partial.Part.{Part}
use Rattle.giop_frames.specs.Standing.{entry_of, entries}
use Rattle.giop_frames.proofs.Found.{FoundAt, of_key, place-none, place-some}
use Rattle.giop_frames.proofs.Tables.{without-none}
use Rattle.giop_frames.proofs.partial.Part.take_from.Goals as goal

-- what was looked for in the items of the list
none_at : (key : Key) (ps qs : List Part) → qs ≡ ps → None ≡ position (of_key key) qs → position (of_key key) ps ≡ None
none_at key ps qs e n = ap (position (of_key key)) (sym e) ∙ sym n

at : (key : Key) (ps qs : List Part) (k : ℕ) → qs ≡ ps → Some k ≡ position (of_key key) qs → FoundAt key ps k
at key ps qs k e n = place-some key ps k (ap (position (of_key key)) (sym e) ∙ sym n)

pub returns-in_err-at-clause-found : goal.returns-in_err-at-clause-found
returns-in_err-at-clause-found c =
    rw c.from_residual.ensures (place-none c.args.key c.args.parts.now.items (none_at c.args.key c.args.parts.now.items c.as_slice.result.now c.as_slice.ensures.value c.in_err-at.ensures))

pub returns-in_err-at-clause-rest : goal.returns-in_err-at-clause-rest
returns-in_err-at-clause-rest c =
    sym (without-none c.args.key (entries c.args.parts.now.items) (place-none c.args.key c.args.parts.now.items (none_at c.args.key c.args.parts.now.items c.as_slice.result.now c.as_slice.ensures.value c.in_err-at.ensures)))

pub returns-clause-found : goal.returns-clause-found
returns-clause-found c =
    let f = at c.args.key c.args.parts.now.items c.as_slice.result.now c.in_ok-at.at c.as_slice.ensures.value c.in_ok-at.ensures in
    f.part c.remove.result ∙ ap (λ (p : Part). Some (entry_of p).part) (sym c.remove.ensures.value)

pub returns-clause-key : goal.returns-clause-key
returns-clause-key c =
    let f = at c.args.key c.args.parts.now.items c.as_slice.result.now c.in_ok-at.at c.as_slice.ensures.value c.in_ok-at.ensures in
    ap (λ (p : Part). p.key) c.remove.ensures.value ∙ f.same c.remove.result

pub returns-clause-rest : goal.returns-clause-rest
returns-clause-rest c =
    let f = at c.args.key c.args.parts.now.items c.as_slice.result.now c.in_ok-at.at c.as_slice.ensures.value c.in_ok-at.ensures in
    ap entries c.remove.ensures.items ∙ f.rest
