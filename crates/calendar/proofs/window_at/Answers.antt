-- The list ends behind its first number, or has a window that is right or not.
use Rattle.calendar.specs.laws.Search.{windows}
use Rattle.calendar.proofs.window_at.Goals as goal

pub returns-then-windows-k-lt2 : goal.returns-then-windows-k-lt2
returns-then-windows-k-lt2 c = search windows

pub returns-then-window_right : goal.returns-then-window_right
returns-then-window_right c = search windows

pub returns : goal.returns
returns c = search windows
