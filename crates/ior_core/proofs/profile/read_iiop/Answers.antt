use Rattle.std.proofs.Common.{◌≡◌, rules}
use Rattle.std.proofs.lemmas.Result.{err_from_is_err_and}
use Rattle.ior_core.specs.Private.{head_value}
use Rattle.ior_core.specs.Profiles.{body_of, components_of}
use Rattle.cdr_core.specs.Value.{values}
use Rattle.ior_core.proofs.Structures.{extended}
use Rattle.ior_core.proofs.Memory.{body_read, components_run_out}
use Rattle.ior_core.proofs.Bodies.{components_end, body_is, profile_again}
use Rattle.ior_core.proofs.profile.read_iiop.Goals as goal

pub returns-in_err-components-clause-reads : goal.returns-in_err-components-clause-reads
returns-in_err-components-clause-reads c =
    let p = err_from_is_err_and c.from_residual-in_err-components.result c.from_residual-in_err-components.ensures.1 in
    let start = c.in_ok-cursor.cursor in
    let h = c.in_ok-head.head in
    let mid = c.read_head.new.cursor in
    let fails = rw (c.in_ok-head.ensures.1) at c.in_err-components.ensures.gives.0 in
    rw (p.1, p.2) (components_end c.args.octets.now start.order start.place start.rest c.in_ok-cursor.ensures (head_value h.major h.minor h.host.now h.port h.object_key.now) mid.place mid.rest c.in_ok-head.ensures.0 c.in_err-components.field-0.0 fails)

pub returns-then-head-ne1-clause-reads : goal.returns-then-head-ne1-clause-reads
returns-then-head-ne1-clause-reads c =
    let start = c.in_ok-cursor.cursor in
    let h = c.in_ok-head.head in
    let mid = c.read_head.new.cursor in
    let new = c.read_components.new.cursor in
    let all = c.in_ok-components.components.items in
    let components = rw (c.in_ok-head.ensures.1) at c.in_ok-components.ensures.gives.0 in
    let head = head_value h.major h.minor h.host.now h.port h.object_key.now in
    (extended head (values (components_of h.minor all)), body_is c.args.octets.now start.order start.place start.rest c.in_ok-cursor.ensures head mid.place mid.rest c.in_ok-head.ensures.0 (values (components_of h.minor all)) new.place new.rest components, search rules)

pub returns-clause-reads : goal.returns-clause-reads
returns-clause-reads c =
    let start = c.in_ok-cursor.cursor in
    let h = c.in_ok-head.head in
    let mid = c.read_head.new.cursor in
    let new = c.read_components.new.cursor in
    let all = c.in_ok-components.components.items in
    let components = rw (c.in_ok-head.ensures.1) at c.in_ok-components.ensures.gives.0 in
    let head = head_value h.major h.minor h.host.now h.port h.object_key.now in
    let body = body_is c.args.octets.now start.order start.place start.rest c.in_ok-cursor.ensures head mid.place mid.rest c.in_ok-head.ensures.0 (values (components_of h.minor all)) new.place new.rest components in
    let one : h.major ≡ 1 = search rules in
    (profile_again (body_of c.args.octets.now) h.major h.minor h.host.now h.port h.object_key.now c.in_ok-from_slice.field-0.items c.in_ok-from_slice-2.field-0.items (values (components_of h.minor all)) body one c.in_ok-from_slice.ensures.items c.in_ok-from_slice-2.ensures.items, c.in_ok-components.ensures.none)

pub returns-in_err-components-clause-memory : goal.returns-in_err-components-clause-memory
returns-in_err-components-clause-memory c =
    let p = err_from_is_err_and c.from_residual-in_err-components.result c.from_residual-in_err-components.ensures.1 in
    let start = c.in_ok-cursor.cursor in
    let h = c.in_ok-head.head in
    let mid = c.read_head.new.cursor in
    let may = rw (c.in_ok-head.ensures.1) at c.in_err-components.ensures.gives.1 in
    rw (p.1, p.2) (components_run_out c.args.octets.now start.order start.place start.rest c.in_ok-cursor.ensures (head_value h.major h.minor h.host.now h.port h.object_key.now) mid.place mid.rest c.in_ok-head.ensures.0 c.in_err-components.field-0.0 c.read_components.new.cursor.place may)

pub returns-in_err-from_slice-clause-memory : goal.returns-in_err-from_slice-clause-memory
returns-in_err-from_slice-clause-memory c =
    let start = c.in_ok-cursor.cursor in
    let h = c.in_ok-head.head in
    let mid = c.read_head.new.cursor in
    let new = c.read_components.new.cursor in
    let all = c.in_ok-components.components.items in
    let components = rw (c.in_ok-head.ensures.1) at c.in_ok-components.ensures.gives.0 in
    let head = head_value h.major h.minor h.host.now h.port h.object_key.now in
    λ _. body_read c.args.octets.now _ (body_is c.args.octets.now start.order start.place start.rest c.in_ok-cursor.ensures head mid.place mid.rest c.in_ok-head.ensures.0 (values (components_of h.minor all)) new.place new.rest components)

pub returns-in_err-from_slice-2-clause-memory : goal.returns-in_err-from_slice-2-clause-memory
returns-in_err-from_slice-2-clause-memory c =
    let start = c.in_ok-cursor.cursor in
    let h = c.in_ok-head.head in
    let mid = c.read_head.new.cursor in
    let new = c.read_components.new.cursor in
    let all = c.in_ok-components.components.items in
    let components = rw (c.in_ok-head.ensures.1) at c.in_ok-components.ensures.gives.0 in
    let head = head_value h.major h.minor h.host.now h.port h.object_key.now in
    λ _. body_read c.args.octets.now _ (body_is c.args.octets.now start.order start.place start.rest c.in_ok-cursor.ensures head mid.place mid.rest c.in_ok-head.ensures.0 (values (components_of h.minor all)) new.place new.rest components)
