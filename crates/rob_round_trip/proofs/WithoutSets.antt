-- Texts without the word `over`, and models without named sets.
pub mod SetlessTexts
pub mod QuietLines
pub mod QuietTexts
