use Rattle.std.proofs.Common.{◌≡◌, ◌∙◌, List, ℕ, ap, rules}
use Rattle.std.proofs.lemmas.Int.{to_z-of_z}
use mir.Syntax.{w32}
use mir.Val.{SFits}
use Rattle.lemonrudder.specs.Layouts.{laid, octets_of_completion, written}
use Rattle.lemonrudder.proofs.calling.CompletionHead.tell.Goals as goal

pub returns : goal.returns
unfolding octets_of_completion
returns c =
    let fits : SFits w32 c.args.self.now.call = search rules in
    let all : written c.put_u32-3.new.self ≡ octets_of_completion c.args.self.now = rw (c.put_u32-3.ensures.written, c.put_u32-2.ensures.written, c.put_u32.ensures.written, c.put_i32.ensures.written, c.put_u64-2.ensures.written, c.put_u64.ensures.written, c.new-layout.ensures.written, to_z-of_z w32 c.args.self.now.call fits) in
    c.fill.ensures ∙ ap (λ (l : List ℕ). laid l c.args.room.now) all
