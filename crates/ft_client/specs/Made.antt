-- What a client is made with, and until when that can change.
use Rattle.std.specs.Prelude.{◌==◌, ◌&&◌, Bool, if◌then◌else◌, is_some, length, not}
use Rattle.giop_core.specs.declared.header.Version.{Version}
use Rattle.giop_frames.specs.declared.limits.Limits.{Limits}
use Rattle.ft_client.specs.Clients.{Client}

-- it gave no number, took none up and skipped none, it is not connected, and no call is pending
abbrev pub is_unused : Client → Bool
is_unused m = m.last == 0 && (not (is_some m.link) && length m.pending == 0)

-- one that is unused writes its messages in this version from now on, and its links keep to these limits; any other stays as it is
abbrev pub made_with : Version → Limits → Client → Client
made_with version limits m = if is_unused m then record m { version = version; limits = limits } else m
