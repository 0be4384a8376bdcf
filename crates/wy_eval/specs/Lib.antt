-- which declared types reach one with clauses
pub mod Marks
-- bytes of texts
pub mod Texts
-- how statements end
pub mod Exits
-- how calls begin
pub mod Entries
-- what code goes by
pub mod Settings
-- what follows the body of a loop
pub mod Turns
-- how an evaluation ends
pub mod Endings
