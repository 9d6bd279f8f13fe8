-- How the commands of a script are spelt.
use Rattle.std.specs.Prelude.{ℕ, List, codes}
use Rattle.gateway.specs.declared.command.Command.{Command}
use Rattle.gateway.specs.declared.command.Command.TheVariants.{Check, Show, Numbers, Keep, Alike}

abbrev pub command_name : Command → List ℕ
command_name Check = codes "check"
command_name Show = codes "show"
command_name Numbers = codes "numbers"
command_name Keep = codes "keep"
command_name Alike = codes "alike"
