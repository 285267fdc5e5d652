use Rattle.std.proofs.Common.{◌≡◌, ◌∙◌, List, ℕ, ap, rules}
use Rattle.std.proofs.lemmas.Int.{to_z-of_z}
use mir.Syntax.{w32}
use mir.Val.{SFits}
use Rattle.lemonrudder.specs.Layouts.{laid, octets_of_request, written}
use Rattle.lemonrudder.proofs.request.RequestHead.tell.Goals as goal

pub returns : goal.returns
unfolding octets_of_request
returns c =
    let fits : SFits w32 c.args.self.now.retention_id = search rules in
    let all : written c.put_u32-9.new.self ≡ octets_of_request c.args.self.now = rw (c.put_u32-9.ensures.written, c.put_u32-8.ensures.written, c.put_u64-8.ensures.written, c.put_u64-7.ensures.written, c.put_u32-7.ensures.written, c.put_i32.ensures.written, c.put_u32-6.ensures.written, c.put_u32-5.ensures.written, c.put_u32-4.ensures.written, c.put_u32-3.ensures.written, c.put_u32-2.ensures.written, c.put_u32.ensures.written, c.put_u64-6.ensures.written, c.put_u64-5.ensures.written, c.put_u64-4.ensures.written, c.put_u64-3.ensures.written, c.put_u64-2.ensures.written, c.put_u64.ensures.written, c.new-layout.ensures.written, to_z-of_z w32 c.args.self.now.retention_id fits) in
    c.fill.ensures ∙ ap (λ (l : List ℕ). laid l c.args.room.now) all
