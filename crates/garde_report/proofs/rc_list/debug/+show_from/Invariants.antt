use Rattle.std.proofs.Common.{◌-◌, length}
use Rattle.garde_report.proofs.rc_list.debug.+show_from.Given as goal

-- how many items are to be shown
abbrev pub decreases-show_from : goal.decreases-show_from
decreases-show_from g l = length l.list.now - l.from
