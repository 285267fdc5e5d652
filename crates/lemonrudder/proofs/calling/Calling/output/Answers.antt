use Rattle.std.proofs.Common.{◌∙◌, length, drop, Ok, ap}
use Rattle.lemonrudder.specs.Dues.{owed}
use Rattle.lemonrudder.proofs.Owing.{drop_taken}
use Rattle.lemonrudder.proofs.calling.Calling.output.Goals as goal

pub returns : goal.returns
returns c =
    let due = c.args.self.now.due in (
      ap Ok c.output.ensures.count,
      c.output.ensures.room,
      λ x st. record {
        client = st.client;
        placed = c.output.ensures.placed st.placed;
        due = c.output.ensures.owed ∙ ap (λ n. drop n (owed due)) c.output.ensures.count ∙ drop_taken (owed due) (length c.args.room.now) ∙ ap (λ xs. drop (length c.args.room.now) xs) st.due;
        last = st.last;
      },
    )
