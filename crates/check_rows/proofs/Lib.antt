mod QuietLaws
