-- What words ask for, and what words that are refused are answered with.
use Rattle.std.specs.Prelude.{◌≢◌, ⊤}
use Rattle.clap.specs.Words.{kind_of}
use Rattle.clap.specs.declared.error.kind.ErrorKind.TheVariants as kind
use Rattle.giop_run.specs.Settings.{IsInRange, IsServable}
use Rattle.giop_tool.specs.declared.settings.Setting.{Setting}
use Rattle.giop_tool.specs.declared.settings.Setting.TheVariants as meant
use Rattle.giop_tool.specs.declared.settings.SettingError.{SettingError}
use Rattle.giop_tool.specs.declared.settings.SettingError.TheVariants as setting

-- words are refused for what they are: a failed allocation has an error of its own
abbrev pub IsOfWords : SettingError → Type 0
IsOfWords (setting.Words e) = kind_of e ≢ kind.OutOfMemory
IsOfWords setting.Range = ⊤
IsOfWords setting.Memory = ⊤

-- the numbers of what is to be done lie in their ranges
abbrev pub IsMeant : Setting → Type 0
IsMeant (meant.Run task) = IsInRange task
IsMeant (meant.Serve service) = IsServable service
IsMeant (meant.Trace tracing) = ⊤
