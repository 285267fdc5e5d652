use Rattle.std.proofs.Common.{◌≡◌, ◌∙◌, List, ℕ, ap}
use Rattle.lemonrudder.specs.Layouts.{laid, octets_of_profile, written}
use Rattle.lemonrudder.proofs.referring.ProfileHead.tell.Goals as goal

pub returns : goal.returns
unfolding octets_of_profile
returns c =
    let all : written c.put_u32-6.new.self ≡ octets_of_profile c.args.self.now = rw (c.put_u32-6.ensures.written, c.put_u32-5.ensures.written, c.put_u32-4.ensures.written, c.put_u32-3.ensures.written, c.put_u32-2.ensures.written, c.put_u32.ensures.written, c.put_u64-3.ensures.written, c.put_u64-2.ensures.written, c.put_u64.ensures.written, c.new-layout.ensures.written) in
    c.fill.ensures ∙ ap (λ (l : List ℕ). laid l c.args.room.now) all
